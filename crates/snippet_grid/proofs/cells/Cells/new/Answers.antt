use Rattle.snippet_grid.proofs.Common.{string_bytes}
use Rattle.snippet_grid.proofs.GridShown.{grid_none}
use Rattle.snippet_grid.proofs.cells.Cells.new.Goals as goal

pub returns : goal.returns
returns c = record { empty = grid_none (string_bytes c.new-3.result) c.new.result.items c.new-2.result.items c.new-2.ensures.items }
