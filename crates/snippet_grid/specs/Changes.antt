-- Changes of the cells that the runs of a row hold.
use Rattle.std.specs.Prelude.{◌≡◌, ◌<◌, ◌≤◌, ◌+◌, ℕ, nat_lt, nat_le, Bool, ◌&&◌, if◌then◌else◌, List, [], ◌∷◌, length, min, max}
use Rattle.std.specs.List.{slice_index_or}
use Rattle.snippet_grid.specs.Grid.{restyled, linked}
use Rattle.snippet_style.specs.Cell.{Cell, SPACE}
use Rattle.snippet_grid.specs.Runs.{IsRun, run_cell, shown_cell}
use Rattle.snippet_grid.specs.declared.change.Change.{Change}
use Rattle.snippet_grid.specs.declared.change.Change.TheVariants.{Restyle, Link}
use Rattle.snippet_grid.specs.declared.runs.Run.{Run}

-- what a change makes of a cell
abbrev pub changed_by : Change → Cell → Cell
changed_by (Restyle role overwrite) cell = restyled role overwrite cell
changed_by (Link url) cell = linked url.now cell

-- the run with each of its cells changed: it holds the same characters at the same place
pub record IsChanged (change : Change) (run changed : Run) : Type 0 where
  pub row : changed.row ≡ run.row
  pub cell : changed.cell ≡ run.cell
  pub count : changed.count ≡ run.count
  pub start : changed.start ≡ run.start
  pub end : changed.end ≡ run.end
  pub cells : (text : List ℕ) (c : ℕ) → run_cell text changed c ≡ changed_by change (run_cell text run c)

-- a run of unstyled spaces, from one cell of a row to before another
pub record IsBlankRun (text : List ℕ) (row from to : ℕ) (run : Run) : Type 0 where
  pub is_run : IsRun text run
  pub row_is : run.row ≡ row
  pub cell_is : run.cell ≡ from
  pub count_is : from + run.count ≡ to
  pub cells : (c : ℕ) → run_cell text run c ≡ SPACE

-- a run that holds the first cells of a stretch of a row
pub record IsPartOfRow (text : List ℕ) (row from to : ℕ) (g : ℕ → Cell) (part : Run) : Type 0 where
  pub is_run : IsRun text part
  pub row_is : part.row ≡ row
  pub cell_is : part.cell ≡ from
  pub within : from + part.count ≤ to
  pub cells : (c : ℕ) → from ≤ c → c < from + part.count → run_cell text part c ≡ g c

-- whether a cell is one of those from `from` to before `to`
abbrev pub is_within : ℕ → ℕ → ℕ → Bool
is_within from to c = nat_le from c && nat_lt c to

-- in this row the runs show g from `from` to before `to`, and elsewhere what others show
abbrev pub ShowsSpan : List ℕ → List ℕ → List Run → List Run → ℕ → ℕ → ℕ → (ℕ → Cell) → Type 0
ShowsSpan old new runs_old runs_new row from to g =
    (c : ℕ) → shown_cell new runs_new row c ≡ (if is_within from to c then g c else shown_cell old runs_old row c)

-- how many of the runs have a cell from `from` to before `to`
abbrev pub num_touched : ℕ → ℕ → List Run → ℕ
num_touched from to [] = 0
num_touched from to (run ∷ runs) = (if nat_lt (max run.cell from) (min (run.cell + run.count) to) then 1 else 0) + num_touched from to runs

-- the runs of a row stand from `start` to before `end`
pub record RowAt (runs : List Run) (row start end : ℕ) : Type 0 where
  pub ordered : start ≤ end
  pub within : end ≤ length runs
  pub above : (k : ℕ) (d : Run) → k < start → (slice_index_or runs k d).row < row
  pub inside : (k : ℕ) (d : Run) → start ≤ k → k < end → (slice_index_or runs k d).row ≡ row
  pub below : (k : ℕ) (d : Run) → end ≤ k → k < length runs → row < (slice_index_or runs k d).row

-- in this row the runs show what others show, with these cells in place of those from `start` to before `end`
pub record ShowsReplaced (old new : List ℕ) (runs_old runs_new : List Run) (row start end : ℕ) (cells : List Cell) : Type 0 where
  pub before : (c : ℕ) → c < start → shown_cell new runs_new row c ≡ shown_cell old runs_old row c
  pub inside : (k : ℕ) → k < length cells → shown_cell new runs_new row (start + k) ≡ slice_index_or cells k SPACE
  pub after : (k : ℕ) → shown_cell new runs_new row (start + length cells + k) ≡ shown_cell old runs_old row (end + k)
