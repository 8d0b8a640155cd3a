-- The last row of a grid.
use Rattle.std.specs.Prelude.{◌≡◌, ◌≤◌, ℕ, List, [], ◌∷◌, ◌++◌, take, length}
use Rattle.snippet_grid.specs.Grid.{row_at}
use Rattle.snippet_style.specs.Cell.{Cell}
use Rattle.snippet_titles.specs.HeadingRows.{without_empty_end}

-- the row of this number is the grid's last one, or the one below all
pub record IsAtEnd (row : ℕ) (rows : List (List Cell)) : Type 0 where
  pub within : row ≤ length rows
  pub last : rows ≡ take row rows ++ without_empty_end (row_at rows row ∷ [])
