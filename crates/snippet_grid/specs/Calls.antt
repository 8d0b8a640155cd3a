-- What the calls of a grid make of its rows.
use Rattle.std.specs.Prelude.{◌≡◌, ◌≢◌, ◌<◌, ◌≤◌, ◌+◌, ◌-◌, ℕ, max, Bool, List, [], ◌∷◌, length}
use Rattle.std.specs.List.{slice_index_or}
use Rattle.snippet_style.specs.Cell.{Cell, SPACE}
use Rattle.snippet_style.specs.declared.role.ElementStyle.{ElementStyle}
use Rattle.snippet_grid.specs.Grid.{row_at, cell_at, restyled, changed_within, linked, replaced_within}

-- how many cells the grid has
abbrev pub num_cells : List (List Cell) → ℕ
num_cells [] = 0
num_cells (row ∷ rows) = length row + num_cells rows

-- a grid is another after these cells are written in one of its rows from cell `at` on, read cell by cell
pub record WritesCells (old new : List (List Cell)) (row at : ℕ) (cells : List Cell) : Type 0 where
  -- the written cells are there, and every other cell of the row is as it was
  pub inside : (k : ℕ) → k < length cells → cell_at new row (at + k) ≡ slice_index_or cells k SPACE
  pub before : (c : ℕ) → c < at → cell_at new row c ≡ cell_at old row c
  pub after : (c : ℕ) → at + length cells ≤ c → cell_at new row c ≡ cell_at old row c
  -- every other row is as it was
  pub others : (r : ℕ) → r ≢ row → row_at new r ≡ row_at old r
  -- the row and the grid are larger only as far as the write reaches
  pub width : length (row_at new row) ≡ max (length (row_at old row)) (at + length cells)
  pub count : length new ≡ max (length old) (row + 1)

-- the grid after the cells of row r from `start` to before `end` are changed by f, as far as they are there
abbrev pub cells_changed : (Cell → Cell) → List (List Cell) → ℕ → ℕ → ℕ → List (List Cell)
cells_changed f rows r start end = changed_within (changed_within f start end) r (r + 1) rows

-- rows are others after cells of a row are changed by f, read cell by cell
pub record ChangesCells (f : Cell → Cell) (old new : List (List Cell)) (row start end : ℕ) : Type 0 where
  -- the cells that are there are changed, and every other cell of the row is as it was
  pub inside : (c : ℕ) → start ≤ c → c < end → c < length (row_at old row) → cell_at new row c ≡ f (cell_at old row c)
  pub before : (c : ℕ) → c < start → cell_at new row c ≡ cell_at old row c
  pub after : (c : ℕ) → end ≤ c → cell_at new row c ≡ cell_at old row c
  -- every other row is as it was
  pub others : (r : ℕ) → r ≢ row → row_at new r ≡ row_at old r
  -- no cell and no row is added
  pub width : length (row_at new row) ≡ length (row_at old row)
  pub count : length new ≡ length old

-- the grid after the cells of row r from `start` to before `end` are restyled
abbrev pub cells_restyled : List (List Cell) → ℕ → ℕ → ℕ → ElementStyle → Bool → List (List Cell)
cells_restyled rows r start end role overwrite = cells_changed (restyled role overwrite) rows r start end

-- a grid is another after cells of one of its rows are restyled, read cell by cell
abbrev pub RestylesCells : List (List Cell) → List (List Cell) → ℕ → ℕ → ℕ → ElementStyle → Bool → Type 0
RestylesCells old new row start end role overwrite =
    ChangesCells (restyled role overwrite) old new row start end

-- the grid after the cells of row r from `start` to before `end` are linked
abbrev pub cells_linked : List (List Cell) → ℕ → ℕ → ℕ → List ℕ → List (List Cell)
cells_linked rows r start end url = cells_changed (linked url) rows r start end

-- a grid is another after cells of one of its rows are linked, read cell by cell
abbrev pub LinksCells : List (List Cell) → List (List Cell) → ℕ → ℕ → ℕ → List ℕ → Type 0
LinksCells old new row start end url = ChangesCells (linked url) old new row start end

-- the grid after the cells of row r from `start` to before `end` gave their place to these, if they are there
abbrev pub cells_replaced : List (List Cell) → ℕ → ℕ → ℕ → List Cell → List (List Cell)
cells_replaced rows r start end cells = changed_within (replaced_within start end cells) r (r + 1) rows

-- a grid is another after the cells of one of its rows from `start` to before `end` gave their place to these, read cell by cell
pub record ReplacesCells (old new : List (List Cell)) (row start end : ℕ) (cells : List Cell) : Type 0 where
  -- the new cells are there, and after them those that stood after the stretch
  pub inside : start < end → end ≤ length (row_at old row) → (k : ℕ) → k < length cells → cell_at new row (start + k) ≡ slice_index_or cells k SPACE
  pub after : start < end → end ≤ length (row_at old row) → (k : ℕ) → cell_at new row (start + length cells + k) ≡ cell_at old row (end + k)
  pub width : start < end → end ≤ length (row_at old row) → length (row_at new row) + (end - start) ≡ length (row_at old row) + length cells
  -- the cells before the stretch, and every other row, are as they were
  pub before : (c : ℕ) → c < start → cell_at new row c ≡ cell_at old row c
  pub others : (r : ℕ) → r ≢ row → row_at new r ≡ row_at old r
  pub count : length new ≡ length old
  -- where there is no such stretch, nothing changes
  pub empty : end ≤ start → new ≡ old
  pub past : length (row_at old row) < end → new ≡ old

-- the fact holds of every cell of the grid, and of the spaces around it
abbrev pub EachCell : (Cell → Type 0) → List (List Cell) → Type 0
EachCell P rows = (r c : ℕ) → P (cell_at rows r c)
