use Rattle.snippet_grid.proofs.Common.{common_steps, arith}
use Rattle.snippet_grid.proofs.ReplacedRow.{reads_changed}
use Rattle.snippet_grid.proofs.grid.StyledBuffer.set_style_range.Goals as goal

pub returns-clause-reads : goal.returns-clause-reads
returns-clause-reads c = grind (arith, common_steps, reads_changed, c.change_cells.ensures.ok)
