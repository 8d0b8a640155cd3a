-- Rows of a grid that are written from left to right.
use Rattle.std.specs.Prelude.{◌≡◌, ℕ, List, [], ◌∷◌, ◌++◌, length}
use Rattle.snippet_grid.specs.Grid.{row_at, cells_written}
use Rattle.snippet_grid.specs.declared.grid_row.GridRow.{GridRow}
use Rattle.snippet_style.specs.Cell.{Cell}

-- the grid with these cells after those of a row; where there are none it stays as it is, and no row is made
abbrev pub appended : List (List Cell) → ℕ → List Cell → List (List Cell)
appended rows row [] = rows
appended rows row (cell ∷ cells) = cells_written rows row (length (row_at rows row)) (cell ∷ cells)

-- these cells were added to a row of a grid
pub record AddsToRow (before after : GridRow) (more : List Cell) : Type 0 where
  pub number : after.number ≡ before.number
  pub grid : after.grid ≡ appended before.grid before.number more

-- these rows were added to a grid, where the row was to stand below all others
abbrev pub GainsRows : GridRow → List (List Cell) → List (List Cell) → Type 0
GainsRows row grid rows = row.number ≡ length row.grid → grid ≡ row.grid ++ rows
