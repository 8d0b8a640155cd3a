use Rattle.snippet_strokes.proofs.Common.{on_ok_weaker}
use Rattle.snippet_strokes.proofs.SourceCellLaws.{gap_added}
use Rattle.snippet_strokes.proofs.Common.{arith, common_steps}
use Rattle.snippet_strokes.proofs.elision.draw_elision.Goals as goal

pub returns : goal.returns
returns c = grind (arith, common_steps, on_ok_weaker, gap_added)
