-- What drawing strokes and bars changes, and what it leaves as it was.
use Rattle.std.specs.Prelude.{◌≡◌, ◌≢◌, ℕ, ◌+◌, ◌<◌, ◌≤◌, false, List, All, drop, length, max}
use Rattle.snippet_strokes.proofs.Common.{LineAnnotation, cell_at, row_at, Cell, Layout, inner_cell, IsFreeCell, PlacedEntry, IsBarCell, is_mark_role}
use Rattle.snippet_strokes.proofs.Common.{slice_index_or, SPACE, IsFree}

-- something was drawn: only in rows from `row` on, in cells from `from` on, and no listed character and no link came into a row
pub record DrawsFrom (row from : ℕ) (old new : List (List Cell)) : Type 0 where
  pub above : (r : ℕ) → r < row → row_at new r ≡ row_at old r
  pub left : (r c : ℕ) → c < from → cell_at new r c ≡ cell_at old r c
  pub free : (r : ℕ) → ((c : ℕ) → IsFreeCell (cell_at old r c)) → (c : ℕ) → IsFreeCell (cell_at new r c)
  pub count : length new ≡ length old

-- what is drawn left of the code is nothing but parts of bars
abbrev pub KeepsBarCells : Layout → List (List Cell) → List (List Cell) → Type 0
KeepsBarCells layout old new =
    (r c : ℕ) → c < layout.code → IsBarCell layout.decor (cell_at old r c) → IsBarCell layout.decor (cell_at new r c)

-- bars were drawn beside rows: only in rows from `row` on, in the cells between the separator and the code, and nothing but
-- parts of bars
pub record DrawsBarCells (layout : Layout) (row : ℕ) (old new : List (List Cell)) : Type 0 where
  pub draws : DrawsFrom row (inner_cell layout) old new
  pub bar_cells : KeepsBarCells layout old new
  pub code : (r : ℕ) → drop layout.code (row_at new r) ≡ drop layout.code (row_at old r)
  pub longer : (r : ℕ) → length (row_at old r) ≤ length (row_at new r)

-- something was drawn, and nothing of it in the role of marks but below the first columns of these entries
abbrev pub MarksStarts : ℕ → List PlacedEntry → List (List Cell) → List (List Cell) → Type 0
MarksStarts code es old new =
    (r c : ℕ) → All (λ e. c ≢ code + e.entry.start.display) es → is_mark_role (cell_at old r c).role ≡ false → is_mark_role (cell_at new r c).role ≡ false

-- an entry doesn't start left of this cell
abbrev pub StandsFrom : ℕ → ℕ → LineAnnotation → Type 0
StandsFrom code from e = from ≤ code + e.start.display

-- parts of bars were drawn in a row: cells left of the bars and from the code on stay, and where bars stand nothing came but
-- parts of them
pub record BarsDrawn (layout : Layout) (old new : List Cell) : Type 0 where
  pub left : (c : ℕ) → c < inner_cell layout → slice_index_or new c SPACE ≡ slice_index_or old c SPACE
  pub bar_cells : (c : ℕ) → IsBarCell layout.decor (slice_index_or old c SPACE) → IsBarCell layout.decor (slice_index_or new c SPACE)
  pub code : drop layout.code new ≡ drop layout.code old
  pub longer : length old ≤ length new
  pub short : length new ≤ max (length old) layout.code
  pub free : IsFree old → IsFree new
