use Rattle.snippet_lines.proofs.Common.{Some, None, arith, strip_suffix_char}
use Rattle.snippet_lines.proofs.CursorLemmas.{last_byte-not, no_lf-open, no_lf-closed, no_lf-front}
use Rattle.snippet_lines.proofs.lines.without_line_end.Goals as goal

pub returns-in_default-clause-line : goal.returns-in_default-clause-line
returns-in_default-clause-line c =
    let open_end = strip_suffix_char 10 c.args.line.now None c.in_default.ensures.cases (omega arith) in
    record {
      no_lf = no_lf-open c.args.line.now c.requires.one_line (last_byte-not c.args.line.now 10 (omega arith) open_end);
      no_cr = λ e. cc;
    }

pub returns-in_default-clause-no_end : goal.returns-in_default-clause-no_end
returns-in_default-clause-no_end c =
    let open_end = strip_suffix_char 10 c.args.line.now None c.in_default.ensures.cases (omega arith) in
    λ _. last_byte-not c.args.line.now 10 (omega arith) open_end

pub returns-in-Some-strip_suffix-clause-line : goal.returns-in-Some-strip_suffix-clause-line
returns-in-Some-strip_suffix-clause-line c =
    let lf = strip_suffix_char 10 c.args.line.now (Some c.in-Some.text) c.in-Some.ensures.cases (omega arith) in
    let cr = strip_suffix_char 13 c.in-Some.text.now (Some c.in-Some-strip_suffix.text) c.in-Some-strip_suffix.ensures.cases (omega arith) in
    record {
      no_lf = no_lf-front c.in-Some.text.now c.in-Some-strip_suffix.text.now 13 cr (no_lf-closed c.args.line.now c.in-Some.text.now 10 lf c.requires.one_line);
      no_cr = λ e. cc;
    }

pub returns-in-None-clause-line : goal.returns-in-None-clause-line
returns-in-None-clause-line c =
    let lf = strip_suffix_char 10 c.args.line.now (Some c.in-Some.text) c.in-Some.ensures.cases (omega arith) in
    let no_cr = strip_suffix_char 13 c.in-Some.text.now None c.in-None.ensures.cases (omega arith) in
    record {
      no_lf = no_lf-closed c.args.line.now c.in-Some.text.now 10 lf c.requires.one_line;
      no_cr = λ _. last_byte-not c.in-Some.text.now 13 (omega arith) no_cr;
    }
