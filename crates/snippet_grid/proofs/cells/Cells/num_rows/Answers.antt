use Rattle.snippet_grid.proofs.Common.{common_steps, arith}
use Rattle.snippet_grid.proofs.GridShown.{count_shown}
use Rattle.snippet_grid.proofs.cells.Cells.num_rows.Goals as goal

pub returns-clause-count : goal.returns-clause-count
returns-clause-count c = grind (arith, common_steps, c.len.ensures, count_shown)
