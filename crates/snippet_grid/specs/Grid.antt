-- Rows of cells, and what is written into them.
use Rattle.std.specs.Prelude.{◌-◌, ℕ, nat_lt, nat_le, max, Bool, ◌||◌, ◌&&◌, if◌then◌else◌, List, [], ◌∷◌, ◌++◌, length, map, take}
use Rattle.std.specs.Prelude.{drop, Some}
use Rattle.std.specs.List.{slice_index_or}
use Rattle.snippet_style.specs.Cell.{Cell, SPACE, gives_way, written}
use Rattle.snippet_style.specs.declared.role.ElementStyle.{ElementStyle}

-- the row of this number, which has no cells where the grid has no such row
abbrev pub row_at : List (List Cell) → ℕ → List Cell
row_at rows r = slice_index_or rows r []

-- the cell at this place, a space where the grid has no such cell
abbrev pub cell_at : List (List Cell) → ℕ → ℕ → Cell
cell_at rows r c = slice_index_or (row_at rows r) c SPACE

-- the grid after these cells are written in row r from cell `at` on
abbrev pub cells_written : List (List Cell) → ℕ → ℕ → List Cell → List (List Cell)
cells_written rows r at cells = written [] rows r (written SPACE (row_at rows r) at cells ∷ [])

-- the cell in this role, where overwriting is allowed or its own role gives way; else the cell as it was
abbrev pub restyled : ElementStyle → Bool → Cell → Cell
restyled role overwrite cell =
    if overwrite || gives_way cell.role then record cell { role = role } else cell

-- the list with each element from `start` to before `end` changed by f, as far as the list has any there
unfoldable pub changed_within : {X : Type 0} → (X → X) → ℕ → ℕ → List X → List X
changed_within f start end xs =
    take start xs ++ map f (take (end - start) (drop start xs)) ++ drop (max start end) xs

-- the cell as part of a linked text with this URL, whatever link it had
abbrev pub linked : List ℕ → Cell → Cell
linked url cell = record cell { link = Some url }

-- the list with these elements in place of those from `start` to before `end`; where it has no such stretch it stays
unfoldable pub replaced_within : {X : Type 0} → ℕ → ℕ → List X → List X → List X
replaced_within start end new xs =
    if nat_lt start end && nat_le end (length xs) then take start xs ++ new ++ drop end xs else xs
