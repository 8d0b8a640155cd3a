-- A row of cells that is added to a grid, as runs.
use Rattle.std.specs.Prelude.{◌≡◌, ◌<◌, ◌≤◌, ◌-◌, ℕ, List, [], ◌∷◌, ◌++◌, length, map, take, drop, chars}
use Rattle.std.specs.List.{slice_index_or}
use Rattle.snippet_grid.specs.Runs.{EndsBy, IsRow, IsWord, cells_to}
use Rattle.snippet_grid.specs.StyledChars.{cell_of, ch_of}
use Rattle.snippet_grid.specs.declared.runs.Run.{Run}
use Rattle.snippet_grid.specs.declared.styled_char.StyledChar.{StyledChar}
use Rattle.snippet_style.specs.Cell.{Cell, SPACE}

-- after some runs come those of a row, which show its cells
pub record AddsRow (text : List ℕ) (row : ℕ) (cells : List Cell) (old new : List Run) : Type 0 where
  pub added : List Run
  pub is : new ≡ old ++ added
  pub is_row : IsRow text row added
  pub ends : EndsBy (length cells) added
  pub shows : cells_to text added row (length cells) ≡ cells

-- after some runs comes one of the cells of a row from one to before another, which are of one role; it can't go on there
pub record AddsStretch (text : List ℕ) (row : ℕ) (cells : List StyledChar) (from to : ℕ) (old new : List Run) : Type 0 where
  pub run : Run
  pub is : new ≡ old ++ run ∷ []
  pub word : List ℕ
  pub holds : (d : StyledChar) → IsWord text row from (slice_index_or cells from d).role word run
  pub spells : chars word ≡ map ch_of (take (to - from) (drop from cells))
  pub more : from < to
  pub within : to ≤ length cells
  pub role : (k : ℕ) (d : StyledChar) → from ≤ k → k < to → (slice_index_or cells k d).role ≡ (slice_index_or cells from d).role
  pub stops : (d : StyledChar) → to < length cells → (slice_index_or cells to d).role ≡ (slice_index_or cells from d).role
      → cell_of (slice_index_or cells to d) ≡ SPACE
