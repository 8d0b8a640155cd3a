use Rattle.snippet_strokes.proofs.Common.{ap, arith, length, chars-nil}
use Rattle.snippet_strokes.proofs.Common.{common_steps}
use Rattle.snippet_strokes.proofs.source_row.draw_empty_row.Goals as goal

pub write_source_row-requires-clause-number : goal.write_source_row-requires-clause-number
write_source_row-requires-clause-number c = grind (arith, c.args.number.now, c.layout.view_is, c.requires.number, c.as_str.ensures.value)

pub write_source_row-requires-clause-text : goal.write_source_row-requires-clause-text
write_source_row-requires-clause-text c = omega (arith, ap length chars-nil)

pub returns-clause-added : goal.returns-clause-added
returns-clause-added c = grind (arith, common_steps, chars-nil)
