use Rattle.snippet_grid.proofs.Common.{common_steps, arith}
use Rattle.snippet_grid.proofs.ReplaceLemmas.{cells_changed_none, ChangesCells-from_equal}
use Rattle.snippet_grid.proofs.grid.StyledBuffer.set_style.Goals as goal

-- no cell of this number is there
pub returns-then-cell-width : goal.returns-then-cell-width
returns-then-cell-width c = grind (arith, common_steps, cells_changed_none, c.if-cell-width.true, c.width.ensures.value, ChangesCells-from_equal)
