use Rattle.snippet_grid.proofs.Common.{common_steps, arith}
use Rattle.snippet_grid.proofs.GridShown.{width_shown}
use Rattle.snippet_grid.proofs.cells.Cells.width.Goals as goal

pub returns : goal.returns
returns c = grind (arith, common_steps, c.width_of.ensures.value, c.deref.ensures.value, width_shown)
