use Rattle.snippet_strokes.proofs.Common.{arith}
use Rattle.snippet_strokes.proofs.source_row.digits_beside.Goals as goal

pub returns-then-gutter-text : goal.returns-then-gutter-text
returns-then-gutter-text c = grind (arith, c.format-text.result.now, c.args.number, c.format-text.ensures.text, c.args.gutter)
