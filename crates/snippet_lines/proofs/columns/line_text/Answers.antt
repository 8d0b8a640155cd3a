use Rattle.snippet_lines.proofs.Common.{◌∙◌, ap, subst, sym, IsCharBoundary, line_length}
use Rattle.snippet_lines.proofs.TextLinesLemmas.{line_length-border}
use Rattle.snippet_lines.proofs.columns.line_text.Goals as goal

pub range-requires-clause-end_boundary : goal.range-requires-clause-end_boundary
range-requires-clause-end_boundary c =
    subst (IsCharBoundary c.args.text.now) (sym (c.line_length.ensures.value ∙ ap line_length c.as_bytes.ensures.value)) (line_length-border c.args.text.now)
