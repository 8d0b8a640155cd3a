use Rattle.snippet_strokes.proofs.Common.{arith, on_ok_weaker}
use Rattle.snippet_strokes.proofs.BarWrites.{line_painted}
use Rattle.snippet_strokes.proofs.Common.{common_steps}
use Rattle.snippet_strokes.proofs.connectors.draw_line_to.Goals as goal

pub returns : goal.returns
returns g c = grind (arith, common_steps, on_ok_weaker, line_painted)
