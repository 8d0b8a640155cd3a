-- What is known of entries while they are placed.
use Rattle.std.specs.Prelude.{◌≤◌, ◌≡◌, ℕ, ◌+◌, ◌<◌, ◌||◌, Bool, false, List, [], ◌∷◌, All, IsPermutation, length, map, slice_index_or}
use Rattle.std.specs.Prelude.{if◌then◌else◌}
use Rattle.snippet_parts.specs.declared.entries.LineAnnotation.{LineAnnotation}
use Rattle.snippet_style.specs.Bounds.{IsColumn}
use Rattle.snippet_lines.specs.OrderedBy.{ordered_by}
use Rattle.snippet_labels.specs.declared.positions.PlacedEntry.{PlacedEntry}
use Rattle.snippet_grid.specs.Layout.{Layout}
use Rattle.snippet_labels.specs.Pieces.{label_of_entry, label_width}
use Rattle.snippet_labels.specs.Positions.{has_label, takes_space, look_counts, line_positions, is_placed_before}

-- an entry has its place: it ends no farther left than it starts, where sums of columns have room
pub record HasPlace (e : LineAnnotation) : Type 0 where
  pub ordered : e.start.display ≤ e.end.display
  pub near : IsColumn e.end.display

-- the label is that of its entry
abbrev pub HasItsLabel : Layout → PlacedEntry → Type 0
HasItsLabel layout e = e.label ≡ label_of_entry layout e.entry

-- whether an entry may need a row of its own at all: it has a label, or a line to a bar
abbrev pub asks : PlacedEntry → Bool
asks e = has_label e || takes_space e

-- no entry from this place on does
abbrev pub AsksBefore : ℕ → List PlacedEntry → Type 0
AsksBefore end es = (k : ℕ) (d : PlacedEntry) → end ≤ k → k < length es → asks (slice_index_or es k d) ≡ false

-- the column before which an entry ends: its mark, or its label after it and the two columns after that
abbrev pub label_reach : PlacedEntry → ℕ
label_reach e =
    if has_label e then e.entry.end.display + (label_width e.label + 2) else e.entry.end.display

-- others may stand in the row of an entry: right of its label, and left of its mark
abbrev pub SharesRow : PlacedEntry → Type 0
SharesRow e = (e.label.last ≡ false) × (e.label.past ≡ false)

-- an entry begins before a column, and ends before it with its label, right of which others may stand, as left of its mark; no line leads from
-- it to a bar
pub record FitsLeftOf (column : ℕ) (e : PlacedEntry) : Type 0 where
  pub single : takes_space e ≡ false
  pub beside : e.label.last ≡ false
  pub near : e.label.past ≡ false
  pub begins : e.entry.start.display < column
  pub ends : label_reach e ≤ column

-- each of some entries begins left of the one before it, and the first left of this column
abbrev pub BeginLeftOf : ℕ → List PlacedEntry → Type 0
BeginLeftOf column [] = Unit {0}
BeginLeftOf column (e ∷ left) = (e.entry.start.display < column) × BeginLeftOf e.entry.start.display left

-- entries, from right to left, each of which does so before the one right of it begins, and the first before this column
abbrev pub StandInRow : ℕ → List PlacedEntry → Type 0
StandInRow column [] = Unit {0}
StandInRow column (e ∷ left) = FitsLeftOf column e × StandInRow e.entry.start.display left

-- an entry without its position
abbrev pub unplaced : PlacedEntry → PlacedEntry
unplaced e = record e { position = 0; looked = 0 }

-- the later entry may stand after the earlier one: it starts farther left, or at the same column and no greater
-- character
pub record StandsLeft (earlier later : LineAnnotation) : Type 0 where
  pub column : later.start.display ≤ earlier.start.display
  pub character : later.start.display ≡ earlier.start.display → later.start.char ≤ earlier.start.char

-- the entries stand from right to left
abbrev pub IsFromRight : List LineAnnotation → Type 0
IsFromRight es = (i j : ℕ) (d : LineAnnotation) → i ≤ j → j < length es → StandsLeft (slice_index_or es i d) (slice_index_or es j d)

-- the entries of a line from right to left, and as they are given where they start at one character, each with its label, at the
-- positions of that order, and with how many were looked at for it (`same` and `from_right` follow from `order`)
pub record ArePlaced (layout : Layout) (es : List LineAnnotation) (placed : List PlacedEntry) : Type 0 where
  pub order : map (λ e. e.entry) placed ≡ ordered_by is_placed_before es
  pub same : IsPermutation es (map (λ e. e.entry) placed)
  pub from_right : IsFromRight (map (λ e. e.entry) placed)
  pub labels : All (HasItsLabel layout) placed
  pub positions_are : map (λ e. e.position) placed ≡ line_positions placed
  pub looked_are : map (λ e. e.looked) placed ≡ look_counts 0 placed
