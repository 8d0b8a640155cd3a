-- What is seen of the rows of a line: of its source row, with what stands in it, and of the rows of its strokes below it.
use Rattle.std.specs.Prelude.{◌≡◌, ℕ, ◌<◌, ◌≤◌, ◌==◌, ◌&&◌, nat_lt, Bool, false, List, Contains, length, count_by, ◌+◌, true, []}
use Rattle.std.specs.Prelude.{◌∷◌, All, take, drop}
use Rattle.snippet_strokes.proofs.Common.{list_all, is_primary, AnnotationKind, Primary, LineAnnotation, is_single_part, DecorStyle, entry_width, is_wide_entry}
use Rattle.snippet_strokes.proofs.Common.{placeholder_of, slice_index_or, AreReplaced, row_text, row_at, Cell, SPACE, text_cells, Layout, inner_cell}
use Rattle.snippet_strokes.proofs.Common.{label_pieces, space_cell, IsMarkCell, IsBarCell, is_mark_role, label_role, label_text, IsFree, bare_row, is_uncut}
use Rattle.snippet_strokes.proofs.SeenLabels.{IsLabelledAtEnd, LabelsStand}
use Rattle.snippet_strokes.proofs.DrawnCells.{StandsFrom}
use Rattle.snippet_strokes.proofs.Common.{beside_column, code_cell}

-- Entries that stand for whole spans, and the marks that they leave below columns.
-- how many entries of a line are wide, in a room of so many columns
abbrev pub wide_entries : ℕ → DecorStyle → List LineAnnotation → ℕ
wide_entries room decor es = count_by (is_wide_entry room (length (placeholder_of decor))) es

-- the entry covers this column
abbrev pub EntryCovers : LineAnnotation → ℕ → Type 0
EntryCovers e p = (e.start.display ≤ p) × (p < e.end.display)

-- whether an entry stands for a whole span
abbrev pub is_single : LineAnnotation → Bool
is_single e = is_single_part e.annotation_type

-- whether an entry covers a column
abbrev pub has_column : LineAnnotation → Bool
has_column e = nat_lt e.start.display e.end.display

-- whether the marks of a line are promised: each of its entries stands for a whole span and covers a column, and none is
-- wide
abbrev pub are_plain : ℕ → DecorStyle → List LineAnnotation → Bool
are_plain room decor es = list_all is_single es && (list_all has_column es && wide_entries room decor es == 0)

-- the mark of column p has this kind: that of an entry which is among the narrowest that cover the column; where it
-- isn't primary, each primary entry there is wider, so that a primary one wins where both kinds have the least width
pub record IsEntryMark (es : List LineAnnotation) (p : ℕ) (kind : AnnotationKind) : Type 0 where
  pub entry : LineAnnotation
  pub among : Contains es entry
  pub covers : EntryCovers entry p
  pub is : entry.kind ≡ kind
  pub least : (other : LineAnnotation) → Contains es other → EntryCovers other p → entry_width entry ≤ entry_width other
  pub primary_wins : is_primary kind ≡ false → (other : LineAnnotation) → Contains es other → EntryCovers other p → other.kind ≡ Primary
      → entry_width entry < entry_width other

-- the first piece of the label of an entry, as it stands after its mark
abbrev pub first_piece : Layout → LineAnnotation → List ℕ
first_piece layout e = slice_index_or (label_pieces layout (code_cell layout (beside_column e)) (label_text e)) 0 []

-- below each column that has a mark the row holds it, and below each column that no entry covers no cell is in the role of
-- marks. Where no entry has a label that shows anything, a space stands there; after the mark of a line's one entry stand
-- a space and the first piece of its label, and nothing more
pub record ShowsMarks (layout : Layout) (decor : DecorStyle) (code : ℕ) (es : List LineAnnotation) (row : List Cell) : Type 0 where
  pub marks : (p : ℕ) (kind : AnnotationKind) → IsEntryMark es p kind → IsMarkCell decor kind (slice_index_or row (code + p) SPACE)
  pub unmarked : (p : ℕ) → All (λ e. EntryCovers e p → ⊥) es → is_mark_role (slice_index_or row (code + p) SPACE).role ≡ false
  pub spaces : All (λ e. label_text e ≡ []) es → (p : ℕ) → All (λ e. EntryCovers e p → ⊥) es → slice_index_or row (code + p) SPACE ≡ SPACE
  pub lone : (e : LineAnnotation) → es ≡ e ∷ [] → e.start.display < e.end.display → 0 < length (first_piece layout e)
      → drop (code + e.end.display) row ≡ SPACE ∷ text_cells (label_role e.kind) (first_piece layout e)

-- a row of strokes: left of the bars it is as a separator row, or as the closing row where the window closes; where bars
-- stand it holds nothing but parts of them; on a plain line spaces stand between them and the first entry; and it holds no
-- listed character
pub record IsStrokeRow (layout : Layout) (plain : Bool) (es : List LineAnnotation) (closes : Bool) (row : List Cell) : Type 0 where
  pub left : (c : ℕ) → c < inner_cell layout → slice_index_or row c SPACE ≡ slice_index_or (bare_row layout.decor layout.gutter closes) c SPACE
  pub bar_cells : (c : ℕ) → inner_cell layout ≤ c → c < layout.code → IsBarCell layout.decor (slice_index_or row c SPACE)
  pub before : plain ≡ true → (c from : ℕ) → layout.code ≤ c → c < from → All (StandsFrom layout.code from) es → slice_index_or row c SPACE ≡ SPACE
  pub free : IsFree row

-- the rows of a line's strokes: on a plain line that has entries first that of its marks. It is with the last row that the window closes.
-- Where no entry is cut, no label is lost
pub record AreStrokes (layout : Layout) (room : ℕ) (es : List LineAnnotation) (closes : Bool) (rows : List (List Cell)) : Type 0 where
  pub some : are_plain room layout.decor es ≡ true → 0 < length es → 0 < length rows
  pub marks : are_plain room layout.decor es ≡ true → ShowsMarks layout layout.decor layout.code es (row_at rows 0)
  pub labels : is_uncut room layout es ≡ true → All IsLabelledAtEnd es → LabelsStand layout es rows
  pub are : (k : ℕ) → k < length rows → IsStrokeRow layout (are_plain room layout.decor es) es (closes && k + 1 == length rows) (row_at rows k)

-- a row of which, from the code's cell on, at most so many stretches gave their place to the placeholder, one for each
-- wide entry
pub record IsCut (layout : Layout) (wide : ℕ) (whole row : List Cell) : Type 0 where
  pub left : take layout.code row ≡ take layout.code whole
  pub text : AreReplaced (placeholder_of layout.decor) wide (row_text (drop layout.code whole)) (row_text (drop layout.code row))
  pub uncut : wide ≡ 0 → row ≡ whole
  pub free : IsFree whole → IsFree row

-- two rows, one below the other, were each cut so, or both stay as they were, and nothing changed below them
pub record CutsRows (layout : Layout) (wide : ℕ) (uncut : Bool) (source marks : List Cell) (below new : List (List Cell)) : Type 0 where
  pub source_now : List Cell
  pub marks_now : List Cell
  pub new_is : new ≡ source_now ∷ marks_now ∷ below
  pub source_cut : IsCut layout wide source source_now
  pub marks_cut : IsCut layout wide marks marks_now
  pub kept : uncut ≡ true → marks_now ≡ marks

-- a source row with its bars beside it, and cut where entries are wide: it begins as this row does, and where bars stand it
-- holds nothing but parts of them
pub record IsBeside (layout : Layout) (wide : ℕ) (plain row : List Cell) : Type 0 where
  pub front : take (space_cell layout) row ≡ take (space_cell layout) plain
  pub gap : slice_index_or row (space_cell layout) SPACE ≡ slice_index_or plain (space_cell layout) SPACE
  pub bar_cells : (c : ℕ) → inner_cell layout ≤ c → c < layout.code → IsBarCell layout.decor (slice_index_or row c SPACE)
  pub text : AreReplaced (placeholder_of layout.decor) wide (row_text (drop layout.code plain)) (row_text (drop layout.code row))
  pub uncut : wide ≡ 0 → drop layout.code row ≡ drop layout.code plain
  pub free : IsFree plain → IsFree row

-- a source row that is drawn, but for its bars: spaces stand in their place, of whatever role
abbrev pub HasNoBars : Layout → List Cell → Type 0
HasNoBars layout row =
    (space_cell layout ≤ length row) × ((c : ℕ) → inner_cell layout ≤ c → c < layout.code → IsBarCell layout.decor (slice_index_or row c SPACE))

-- rows of a line: its source row, with bars beside it and cut where entries are wide, and the rows of its strokes
pub record AreSeen (layout : Layout) (room : ℕ) (es : List LineAnnotation) (closes : Bool) (plain : List Cell) (rows : List (List Cell)) : Type 0 where
  pub source : List Cell
  pub below : List (List Cell)
  pub rows_are : rows ≡ source ∷ below
  pub beside : IsBeside layout (wide_entries room layout.decor es) plain source
  pub strokes : AreStrokes layout room es closes below
