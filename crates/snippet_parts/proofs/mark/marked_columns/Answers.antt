use Rattle.snippet_parts.proofs.Common.{common_steps, sym, ◌∙◌, arith}
use Rattle.snippet_parts.proofs.MarkLemmas.{first_line-from, marked-from, unmarked-from, start_column-from, end_column-from}
use Rattle.snippet_parts.proofs.mark.marked_columns.Goals as goal

pub returns-then-not-is_marking-clause-none : goal.returns-then-not-is_marking-clause-none
returns-then-not-is_marking-clause-none c =
    grind (arith, common_steps, unmarked-from, c.span_to_locations.ensures.value, c.then-not-is_marking.branch, c.is_marking.ensures.value)

pub returns : goal.returns
returns c =
    let source = c.args.source.now in
    let a = c.args.annotation.now in
    let at = c.span_to_locations.result in
    let is = c.span_to_locations.ensures.value in
    let start = start_column-from source a at is in
    record {
      marked = λ k here. marked-from source a at c.args.line k is here
          (record { marking = sym c.is_marking.ensures.value ∙ c.if-not-is_marking.false; first = c.if-start-line.false; last = c.if-end-line.false });
      number = omega (arith, c.if-start-line.false, first_line-from source a at is);
      start = start;
      end = omega (arith, c.max.ensures, start, end_column-from source a at c.args.line is c.if-start-line.false c.if-end-line.false);
      none = tt;
    }
