use Rattle.snippet_strokes.proofs.Common.{on_ok_weaker}
use Rattle.snippet_grid.proofs.ReplaceLemmas.{separator_row-begun as begun}
use Rattle.snippet_strokes.proofs.Common.{arith, common_steps}
use Rattle.snippet_strokes.proofs.row.begin_row.Goals as goal

pub returns-clause-added : goal.returns-clause-added
returns-clause-added g c = grind (arith, common_steps, on_ok_weaker, begun)
