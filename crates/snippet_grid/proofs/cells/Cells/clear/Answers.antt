use Rattle.snippet_grid.proofs.Common.{string_bytes}
use Rattle.snippet_grid.proofs.GridShown.{grid_none}
use Rattle.snippet_grid.proofs.cells.Cells.clear.Goals as goal

pub returns : goal.returns
returns c = record { empty = grid_none (string_bytes c.clear-3.new.self) c.clear.new.self.items c.clear-2.new.self.items c.clear-2.ensures.items }
