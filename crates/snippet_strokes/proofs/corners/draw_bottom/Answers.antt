use Rattle.snippet_strokes.proofs.Common.{on_ok_weaker}
use Rattle.snippet_strokes.proofs.WriteLaws.{painted-append}
use Rattle.snippet_strokes.proofs.Common.{arith, common_steps}
use Rattle.snippet_strokes.proofs.corners.draw_bottom.Goals as goal

pub returns : goal.returns
returns g c = grind (arith, common_steps, on_ok_weaker, painted-append)
