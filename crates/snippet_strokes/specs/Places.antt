-- What the entries of a line need so that their strokes can be drawn.
use Rattle.std.specs.Prelude.{◌≡◌, ℕ, ◌+◌, ◌<◌, ◌≤◌, true, List, All, length}
use Rattle.snippet_grid.specs.Layout.{Layout}
use Rattle.snippet_labels.specs.declared.positions.PlacedEntry.{PlacedEntry}
use Rattle.snippet_labels.specs.Placing.{HasPlace}
use Rattle.snippet_strokes.specs.Drawable.{IsReady}
use Rattle.snippet_style.specs.Bounds.{AreRows}
use Rattle.snippet_labels.specs.Positions.{has_label, label_place, pieces_of}

-- the rows that an entry needs are there: down to that of its stem, or where it has none that of the marks, and down to the last of its
-- label, if it has one
pub record HasRows (row count : ℕ) (e : PlacedEntry) : Type 0 where
  pub mark : row + e.position < count
  pub label : has_label e ≡ true → row + (label_place e).0 + length (pieces_of e) ≤ count

-- an entry has its place among so many rows, of which this is that of the marks: it has its columns, and the rows that it needs, and
-- there are no more rows than a grid can have
pub record HasPlaceAmong (row count : ℕ) (e : PlacedEntry) : Type 0 where
  pub columns : HasPlace e.entry
  pub small : AreRows count
  pub rows : HasRows row count e

-- so many rows are enough for the strokes of these entries, of which the source row is `row`: that of the marks is among them, and
-- each entry has the rows that it needs and can be drawn
pub record AreEnough (layout : Layout) (row count : ℕ) (placed : List PlacedEntry) : Type 0 where
  pub marks : row + 1 < count
  pub small : AreRows count
  pub rows : All (HasRows (row + 1) count) placed
  pub ready : All (IsReady layout) placed
