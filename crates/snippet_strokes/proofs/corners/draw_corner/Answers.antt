use Rattle.snippet_strokes.proofs.Common.{on_ok_weaker}
use Rattle.snippet_strokes.proofs.Common.{arith, common_steps}
use Rattle.snippet_strokes.proofs.corners.draw_corner.Goals as goal

pub returns-in-MultilineStart : goal.returns-in-MultilineStart
returns-in-MultilineStart g c = grind (arith, common_steps, on_ok_weaker)

pub returns-in-MultilineEnd : goal.returns-in-MultilineEnd
returns-in-MultilineEnd g c = grind (arith, common_steps, on_ok_weaker)
