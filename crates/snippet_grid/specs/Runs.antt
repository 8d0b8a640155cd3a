-- Runs of neighbouring cells, and the grid that they show.
use Rattle.std.specs.Prelude.{◌≡◌, ◌≢◌, ◌<◌, ◌≤◌, ◌+◌, ◌-◌, ℕ, nat_lt, nat_le, nat_eq, Bool, true, ◌&&◌, if◌then◌else◌, List, [], ◌∷◌, ◌++◌, length, map}
use Rattle.std.specs.Prelude.{take, drop, max, All, None}
use Rattle.std.specs.List.{slice_index_or, AllPairs, range_with_len}
use Rattle.std.specs.Option.{option_copied}
use Rattle.std.specs.Str.{chars, is_utf8}
use Rattle.snippet_style.specs.Cell.{Cell, SPACE}
use Rattle.snippet_grid.specs.declared.runs.Run.{Run}
use Rattle.snippet_style.specs.declared.role.ElementStyle.{ElementStyle}
use Rattle.snippet_style.specs.Bounds.{IsUsize}

-- the bytes of a run, of the text that all runs share, and its characters
abbrev pub run_bytes : List ℕ → Run → List ℕ
run_bytes text run = take (run.end - run.start) (drop run.start text)

-- the characters of a run
abbrev pub run_chars : List ℕ → Run → List ℕ
run_chars text run = chars (run_bytes text run)

-- the cell of this number, if the run holds it
abbrev pub run_cell : List ℕ → Run → ℕ → Cell
run_cell text run c = record { ch = slice_index_or (run_chars text run) (c - run.cell) 32; role = run.role; link = option_copied run.link }

-- whether a run holds the cell of this row and number
abbrev pub holds : Run → ℕ → ℕ → Bool
holds run r c = nat_eq run.row r && (nat_le run.cell c && nat_lt c (run.cell + run.count))

-- a cell after some runs are painted over it, in order
abbrev pub painted_over : List ℕ → ℕ → ℕ → Cell → List Run → Cell
painted_over text r c cell [] = cell
painted_over text r c cell (run ∷ runs) = painted_over text r c (if holds run r c then run_cell text run c else cell) runs

-- the cell of this row and number that some runs show: an unstyled space where none holds it
abbrev pub shown_cell : List ℕ → List Run → ℕ → ℕ → Cell
shown_cell text runs r c = painted_over text r c SPACE runs

-- the run has a character for each of its cells, in a stretch of the text that may be cut out
pub record IsRun (text : List ℕ) (run : Run) : Type 0 where
  pub ordered : run.start ≤ run.end
  pub within : run.end ≤ length text
  pub starts : is_utf8 (take run.start text) ≡ true
  pub ends : is_utf8 (take run.end text) ≡ true
  pub counted : run.count ≡ length (run_chars text run)
  pub some : 0 < run.count
  pub fits : IsUsize (run.cell + run.count)

-- a text that begins with another
abbrev pub BeginsWith : List ℕ → List ℕ → Type 0
BeginsWith old new = take (length old) new ≡ old

-- the second run goes on where the first ends
pub record Continues (first second : Run) : Type 0 where
  pub row : first.row ≡ second.row
  pub touches : first.cell + first.count ≡ second.cell
  pub role : first.role ≡ second.role
  pub link : option_copied first.link ≡ option_copied second.link

-- one run is two in one
pub record IsJoined (old new : List ℕ) (first second whole : Run) : Type 0 where
  pub is_run : IsRun new whole
  pub row : whole.row ≡ first.row
  pub cell : whole.cell ≡ first.cell
  pub count : whole.count ≡ first.count + second.count
  pub role : whole.role ≡ first.role
  pub link : option_copied whole.link ≡ option_copied first.link
  pub chars_are : run_chars new whole ≡ run_chars old first ++ run_chars old second

-- the part of a run from one of its cells to before another
pub record IsPart (text : List ℕ) (run : Run) (from to : ℕ) (part : Run) : Type 0 where
  pub is_run : IsRun text part
  pub row : part.row ≡ run.row
  pub cell : part.cell ≡ from
  pub count : from + part.count ≡ to
  pub role : part.role ≡ run.role
  pub link : option_copied part.link ≡ option_copied run.link
  pub chars_are : run_chars text part ≡ take (to - from) (drop (from - run.cell) (run_chars text run))

-- the runs show what others show, and this run over it
abbrev pub ShowsMore : List ℕ → List ℕ → List Run → List Run → Run → Type 0
ShowsMore old new runs_old runs_new run =
    (r c : ℕ) → shown_cell new runs_new r c ≡ (if holds run r c then run_cell old run c else shown_cell old runs_old r c)

-- the runs show from `at` on what others show from `from` to before `to`, and elsewhere what a third list shows
abbrev pub ShowsCopy : List ℕ → List ℕ → List Run → List Run → List Run → ℕ → ℕ → ℕ → Type 0
ShowsCopy old new out_old out_new runs from to at =
    (r c : ℕ) → shown_cell new out_new r c ≡ (if nat_le at c && nat_lt c (at + (to - from)) then shown_cell old runs r
    (from + (c - at)) else shown_cell old out_old r c)

-- a run can be moved from one cell to another
abbrev pub FitsMoved : ℕ → ℕ → Run → Type 0
FitsMoved from at run = IsUsize (at + (run.cell + run.count - from))

-- a run stands before another one: in a row above, or in the same row and before its first cell
pub record Precedes (first second : Run) : Type 0 where
  pub rows : first.row ≤ second.row
  pub cells : first.row ≡ second.row → first.cell + first.count ≤ second.cell

-- a run begins after a cell: in a row below, or in its row and after it
pub record BeginsAfter (row cell : ℕ) (run : Run) : Type 0 where
  pub rows : row ≤ run.row
  pub cells : row ≡ run.row → cell < run.cell

-- a run begins by a cell: in a row above, or in its row at it or before it
pub record BeginsBy (row cell : ℕ) (run : Run) : Type 0 where
  pub rows : run.row ≤ row
  pub cells : row ≡ run.row → run.cell ≤ cell

-- a run stands before another one and does not touch it
abbrev pub IsClear : Run → Run → Type 0
IsClear first second = BeginsAfter first.row (first.cell + first.count) second

-- a run reaches to where another one begins, or past it
abbrev pub ReachesTo : Run → Run → Type 0
ReachesTo first second = BeginsBy first.row (first.cell + first.count) second

-- two runs of a row share a cell, or one begins where the other ends
pub record Touches (first second : Run) : Type 0 where
  pub row : first.row ≡ second.row
  pub reaches : second.cell ≤ first.cell + first.count
  pub starts : first.cell ≤ second.cell + second.count

-- no run reaches past this cell
abbrev pub EndsBy : ℕ → List Run → Type 0
EndsBy n runs = All (λ run. run.cell + run.count ≤ n) runs

-- no run reaches past the end of its row
abbrev pub FitIn : List ℕ → List Run → Type 0
FitIn widths runs = All (λ run. run.cell + run.count ≤ slice_index_or widths run.row 0) runs

-- two runs that touch in a row differ in their role or their link
abbrev pub Differ : Run → Run → Type 0
Differ first second = Continues first second → ⊥

-- runs of one row, in order
pub record IsRow (text : List ℕ) (row : ℕ) (runs : List Run) : Type 0 where
  pub are_runs : All (λ run. IsRun text run) runs
  pub in_row : All (λ run. run.row ≡ row) runs
  pub ordered : AllPairs (λ a b. Precedes a b) runs
  pub apart : AllPairs (λ a b. Differ a b) runs

-- the runs of a row that a run touches
pub record AreTouchedRuns (text : List ℕ) (run : Run) (runs : List Run) : Type 0 where
  pub is_row : IsRow text run.row runs
  pub touch : All (λ x. Touches x run) runs

-- what some runs of a row hold before a run
pub record IsFront (text : List ℕ) (runs : List Run) (run : Run) (front : List Run) : Type 0 where
  pub is_row : IsRow text run.row front
  pub shows : (r c : ℕ) → c < run.cell → shown_cell text front r c ≡ shown_cell text runs r c
  pub ends : EndsBy run.cell front
  pub follows : (x : Run) → All (λ y. Precedes x y) runs → All (λ y. Precedes x y) front
  pub apart_follows : (x : Run) → All (λ y. Differ x y) runs → All (λ y. Differ x y) front
  pub few : length front ≤ length runs
  pub one : length front ≤ 1

-- what some runs of a row hold after a run
pub record IsBack (text : List ℕ) (runs : List Run) (run : Run) (back : List Run) : Type 0 where
  pub is_row : IsRow text run.row back
  pub shows : (r c : ℕ) → run.cell + run.count ≤ c → shown_cell text back r c ≡ shown_cell text runs r c
  pub starts : All (λ x. run.cell + run.count ≤ x.cell) back
  pub ends : (n : ℕ) → EndsBy n runs → EndsBy n back
  pub after : (y : Run) → All (λ x. Precedes x y) runs → All (λ x. Precedes x y) back
  pub apart_after : (y : Run) → All (λ x. Differ x y) runs → All (λ x. Differ x y) back
  pub few : length back ≤ length runs
  pub one : length back ≤ 1

-- what becomes of the runs that a run touches when it is put over them
pub record ArePieces (old new : List ℕ) (runs pieces : List Run) (run : Run) : Type 0 where
  pub is_row : IsRow new run.row pieces
  pub shows : ShowsMore old new runs pieces run
  pub ends : (n : ℕ) → EndsBy n runs → run.cell + run.count ≤ n → EndsBy n pieces
  pub follows : (x : Run) → IsClear x run → All (λ y. Precedes x y) runs → All (λ y. Precedes x y) pieces
  pub apart_follows : (x : Run) → IsClear x run → All (λ y. Differ x y) runs → All (λ y. Differ x y) pieces
  pub after : (y : Run) → IsClear run y → All (λ x. Precedes x y) runs → All (λ x. Precedes x y) pieces
  pub apart_after : (y : Run) → IsClear run y → All (λ x. Differ x y) runs → All (λ x. Differ x y) pieces
  pub few : length pieces ≤ length runs + 2

-- where runs stand after one was added after them
pub record AddsRun (old new : List Run) (run : Run) : Type 0 where
  pub rows : (n : ℕ) → All (λ x. x.row ≡ n) old → run.row ≡ n → All (λ x. x.row ≡ n) new
  pub ends : (n : ℕ) → EndsBy n old → run.cell + run.count ≤ n → EndsBy n new
  pub inside : (widths : List ℕ) → FitIn widths old → run.cell + run.count ≤ slice_index_or widths run.row 0 → FitIn widths new
  pub after : (y : Run) → All (λ x. Precedes x y) old → Precedes run y → All (λ x. Precedes x y) new
  pub order : AllPairs (λ a b. Precedes a b) old → All (λ x. Precedes x run) old → AllPairs (λ a b. Precedes a b) new
  pub apart : AllPairs (λ a b. Precedes a b) old → All (λ x. Precedes x run) old → AllPairs (λ a b. Differ a b) old → AllPairs (λ a b. Differ a b) new
  pub apart_after : (y : Run) → All (λ x. Differ x y) old → Differ run y → All (λ x. Differ x y) new
  pub follows : (x : Run) → All (λ y. Precedes x y) old → Precedes x run → All (λ y. Precedes x y) new
  pub apart_follows : (x : Run) → All (λ y. Differ x y) old → Differ x run → All (λ y. Differ x y) new
  pub count : length new ≤ length old + 1

-- what a list of runs keeps when one is put over it
pub record IsPut (old new : List ℕ) (runs now : List Run) (run : Run) : Type 0 where
  pub shows : ShowsMore old new runs now run
  pub are_runs : All (λ x. IsRun new x) now
  pub ordered : AllPairs (λ a b. Precedes a b) now
  pub apart : AllPairs (λ a b. Differ a b) now
  pub in_row : (n : ℕ) → All (λ x. x.row ≡ n) runs → run.row ≡ n → All (λ x. x.row ≡ n) now
  pub ends : (n : ℕ) → EndsBy n runs → run.cell + run.count ≤ n → EndsBy n now
  pub inside : (widths : List ℕ) → FitIn widths runs → run.cell + run.count ≤ slice_index_or widths run.row 0 → FitIn widths now
  pub few : length now ≤ length runs + 2

-- the first cells of a row that runs show
abbrev pub cells_to : List ℕ → List Run → ℕ → ℕ → List Cell
cells_to text runs r n = map (λ c. shown_cell text runs r c) (range_with_len 0 n)

-- the rows of cells that runs show, in rows of these lengths
unfoldable pub grid_shown : List ℕ → List Run → List ℕ → List (List Cell)
grid_shown text runs widths = map (λ r. map (λ c. shown_cell text runs r c) (range_with_len 0 (slice_index_or widths r 0))) (range_with_len 0 (length widths))

-- runs in order, within their rows; those that touch differ
pub record IsGrid (text : List ℕ) (runs : List Run) (widths : List ℕ) : Type 0 where
  pub are_runs : All (λ run. IsRun text run) runs
  pub ordered : AllPairs (λ a b. Precedes a b) runs
  pub apart : AllPairs (λ a b. Differ a b) runs
  pub inside : FitIn widths runs

-- a run that holds a word's characters
pub record IsWord (text : List ℕ) (row at : ℕ) (role : ElementStyle) (word : List ℕ) (run : Run) : Type 0 where
  pub is_run : IsRun text run
  pub row_is : run.row ≡ row
  pub cell_is : run.cell ≡ at
  pub role_is : run.role ≡ role
  pub unlinked : option_copied run.link ≡ None
  pub chars_are : run_chars text run ≡ chars word

-- the rows reach as far as a write does
pub record IsWidened (old new : List ℕ) (row end : ℕ) : Type 0 where
  pub count : length new ≡ max (length old) (row + 1)
  pub here : slice_index_or new row 0 ≡ max (slice_index_or old row 0) end
  pub others : (r : ℕ) → r ≢ row → slice_index_or new r 0 ≡ slice_index_or old r 0

-- a run stands in the last row, and not left of its end
pub record IsLast (widths : List ℕ) (run : Run) : Type 0 where
  pub row : run.row + 1 ≡ length widths
  pub cell : slice_index_or widths run.row 0 ≤ run.cell

-- the runs from this one on stand in this row or below it, and those before it above it
pub record BeginsRow (runs : List Run) (from row : ℕ) : Type 0 where
  pub within : from ≤ length runs
  pub above : (k : ℕ) (d : Run) → k < from → (slice_index_or runs k d).row < row
  pub below : (k : ℕ) (d : Run) → from ≤ k → k < length runs → row ≤ (slice_index_or runs k d).row
