use Rattle.snippet_lines.proofs.Common.{◌∙◌, ap, length, arith, take_all, newline_count}
use Rattle.snippet_lines.proofs.LinesLemmas.{length-source_lines}
use Rattle.snippet_lines.proofs.lines.newline_count.Goals as goal

pub returns-clause-value : goal.returns-clause-value
returns-clause-value c =
    c.newline_count_before.ensures.value ∙ ap newline_count (take_all (length c.args.text.now) c.args.text.now (omega arith))

pub returns-clause-lines : goal.returns-clause-lines
returns-clause-lines c =
    omega (arith, returns-clause-value c, length-source_lines c.args.text.now)
