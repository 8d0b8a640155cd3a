use Rattle.snippet_strokes.proofs.Common.{arith, common_steps}
use Rattle.snippet_strokes.proofs.bars.draw_side.Goals as goal

pub draw_parts-requires-clause-part : goal.draw_parts-requires-clause-part
draw_parts-requires-clause-part c = grind (arith, common_steps)
