-- What is seen of marks that are painted one over another.
use Rattle.std.specs.Prelude.{◌≡◌, ◌≢◌, ℕ, ◌+◌, ◌<◌, ◌≤◌, ◌==◌, max, true, List, [], ◌∷◌, All, IsPermutation, length, map}
use Rattle.std.specs.Prelude.{slice_index_or}
use Rattle.snippet_strokes.proofs.Common.{if◌then◌else◌, LineAnnotation, strokes_of, underline_role, cell_at, row_at, Cell, unlinked_cell, Layout}
use Rattle.snippet_strokes.proofs.Common.{code_cell, IsFreeCell, PlacedEntry, entry_width, label_role, is_primary, label_place}
use Rattle.snippet_strokes.proofs.Common.{first_glyph, mark_end}
use Rattle.snippet_labels.specs.Positions.{pieces_of}

-- the later entry may be painted over the earlier one: it is narrower, or as wide, and then primary if the earlier one is
pub record CoversOver (earlier later : LineAnnotation) : Type 0 where
  pub narrower : entry_width later ≤ entry_width earlier
  pub primary : entry_width later ≡ entry_width earlier → is_primary earlier.kind ≡ true → is_primary later.kind ≡ true

-- each entry may be painted over all that stand before it
abbrev pub IsPaintingOrder : List LineAnnotation → Type 0
IsPaintingOrder es = (i j : ℕ) (d : LineAnnotation) → i ≤ j → j < length es → CoversOver (slice_index_or es i d) (slice_index_or es j d)

-- the mark of the entry is painted at this column
abbrev pub IsPaintedAt : PlacedEntry → ℕ → Type 0
IsPaintedAt e p = (e.entry.start.display ≤ p) × (p < mark_end e)

-- the cell of an entry's mark: its first glyph at its first column, else an underline ('^' or '-', in Unicode '━' or '─')
abbrev pub mark_cell : Layout → PlacedEntry → ℕ → Cell
mark_cell layout e c =
    let primary = is_primary e.entry.kind in
    unlinked_cell (underline_role primary) (if c == code_cell layout e.entry.start.display then first_glyph layout.decor e else
    (strokes_of layout.decor primary).underline)

-- the cells of a row from `from` to before `to` were painted, and nothing else changed
pub record Paints (old new : List (List Cell)) (row from to : ℕ) (cell : ℕ → Cell) : Type 0 where
  pub inside : (c : ℕ) → from ≤ c → c < to → cell_at new row c ≡ cell c
  pub before : (c : ℕ) → c < from → cell_at new row c ≡ cell_at old row c
  pub after : (c : ℕ) → to ≤ c → cell_at new row c ≡ cell_at old row c
  pub others : (r : ℕ) → r ≢ row → row_at new r ≡ row_at old r
  pub count : row < length old → length new ≡ length old
  pub width : from < to → length (row_at new row) ≡ max (length (row_at old row)) to
  pub kept : to ≤ from → length (row_at new row) ≡ length (row_at old row)

-- the cell below column p holds the mark of an entry that is painted there: entry k or one after it
pub record ShowsFrom (layout : Layout) (es : List PlacedEntry) (k p : ℕ) (d : PlacedEntry) (cell : Cell) : Type 0 where
  pub at : ℕ
  pub later : k ≤ at
  pub within : at < length es
  pub covers : IsPaintedAt (slice_index_or es at d) p
  pub holds : cell ≡ mark_cell layout (slice_index_or es at d) (code_cell layout p)

-- the entries were painted into a row, each over those before it: below a column at which entry k is painted stands its mark
-- or that of a later entry, below a column at which none is what was there, and nothing else changed
pub record Painted (layout : Layout) (es : List PlacedEntry) (row : ℕ) (old new : List (List Cell)) : Type 0 where
  pub marked : (k p : ℕ) (d : PlacedEntry) → k < length es → IsPaintedAt (slice_index_or es k d) p
      → ShowsFrom layout es k p d (cell_at new row (code_cell layout p))
  pub unmarked : (p : ℕ) → All (λ e. IsPaintedAt e p → ⊥) es → cell_at new row (code_cell layout p) ≡ cell_at old row (code_cell layout p)
  pub left : (c : ℕ) → All (λ e. c < code_cell layout e.entry.start.display) es → cell_at new row c ≡ cell_at old row c
  pub free : (c : ℕ) → IsFreeCell (cell_at old row c) → IsFreeCell (cell_at new row c)
  pub others : (r : ℕ) → r ≢ row → row_at new r ≡ row_at old r
  pub count : row < length old → length new ≡ length old
  pub width : (e : PlacedEntry) → es ≡ e ∷ [] → e.entry.start.display < mark_end e
      → length (row_at new row) ≡ max (length (row_at old row)) (code_cell layout (mark_end e))
  pub kept : es ≡ [] → length (row_at new row) ≡ length (row_at old row)

-- the marks of some entries were painted in a painting order
pub record AreMarked (layout : Layout) (placed : List PlacedEntry) (row : ℕ) (old new : List (List Cell)) : Type 0 where
  pub order : List PlacedEntry
  pub same : IsPermutation placed order
  pub ordered : IsPaintingOrder (map (λ e. e.entry) order)
  pub painted : Painted layout order row old new

-- the label of an entry stands whole at its place, piece below piece, in the role of labels of its kind
abbrev pub StandsWhole : Layout → ℕ → List (List Cell) → PlacedEntry → Type 0
StandsWhole layout row rows e =
    (n k : ℕ) → k < length (slice_index_or (pieces_of e) n []) → cell_at rows (row + (label_place e).0 + n) (code_cell layout (label_place e).1 + k)
    ≡ unlinked_cell (label_role e.entry.kind) (slice_index_or (slice_index_or (pieces_of e) n []) k 0)
