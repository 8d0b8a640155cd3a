-- What laws are proved from: what is known of the rows that the graphic form has for a line, and in place of lines (PageLemmas).
use Rattle.annotate_snippets.proofs.Common.{◌≡◌, ℕ, ◌+◌, ◌-◌, ◌==◌, ◌&&◌, Bool, not, List, [], ◌∷◌, length, Annotation, Snippet}
use Rattle.annotate_snippets.proofs.Common.{cow_str_bytes, Cell, norm, width_of, chars_at, dropped_part, LineAnnotation, Margin, Bar, open_past, is_end_part}
use Rattle.annotate_snippets.proofs.Common.{window_cells, AreLineRows, IsHighlighted, IsSourceRow, gap_row, Renderer, Layout, margin_in, number_text, RowName}
use Rattle.annotate_snippets.proofs.Common.{SourceRow, Elision, OfferedLine, RemovedLine, Other, NamedRow, rows_below}
use Rattle.std.proofs.Common.{filter}
use Rattle.annotate_snippets.proofs.LineWords.{bars_on, entries_on}

-- the bars that are open below a row of this name, where these are open above it
abbrev pub open_after : Snippet Annotation → RowName → List Bar → List Bar
open_after s (SourceRow k) open_bars = open_past open_bars (bars_on s k)
open_after s Elision open_bars = open_bars
open_after s (OfferedLine j) open_bars = open_bars
open_after s (RemovedLine i) open_bars = open_bars
open_after s Other open_bars = open_bars

-- the rows are those of line k, the source row and all below it, where these bars are open above it: what its entries and those
-- bars make of the row that holds the number, the separator and the window of the line between the snippet's bounds alone, with
-- the roles that entries highlight. The group's window may close with the line
pub record IsLineDrawn (r : Renderer) (layout : Layout) (closes : Bool) (s : Snippet Annotation) (open_bars : List Bar) (k : ℕ)
    (rows : List (List Cell)) : Type 0 where
  pub entries : List LineAnnotation
  pub are : entries ≡ entries_on s k
  pub margin : Margin
  pub room : margin.term_width ≡ r.term_width - layout.code
  pub margin_is : margin ≡ margin_in r layout s
  pub text : List ℕ
  pub text_is : text ≡ norm (chars_at (cow_str_bytes s.source.text) k)
  pub dropped : ℕ
  pub dropped_is : dropped ≡ width_of (dropped_part margin.computed_left text)
  pub plain : List Cell
  pub shows : IsSourceRow layout (number_text r s.line_numbering layout.gutter (s.line_start + k)) (window_cells layout.decor margin text) plain
  pub highlighted : List Cell
  pub highlights : IsHighlighted layout.code dropped (filter (λ e. not (is_end_part e.annotation_type)) entries) plain highlighted
  pub drawn : AreLineRows layout margin.term_width closes text dropped open_bars entries highlighted rows

-- a row of a snippet's lines, with the rows after it, where these bars are open above it: the rows of a line; or the one in place of
-- lines that are left out, with the bars that run past these, and no row that belongs to it below. A row below a line is one of that
-- line's
abbrev pub IsRowDrawn : Renderer → Layout → Bool → Snippet Annotation → List Bar → RowName → List Cell → List NamedRow → Type 0
IsRowDrawn r layout closes s open_bars (SourceRow k) row rows =
    IsLineDrawn r layout (closes && length (rows_below rows) == length rows) s open_bars k (row ∷ rows_below rows)
IsRowDrawn r layout closes s open_bars Elision row rows =
    (row ≡ gap_row layout open_bars) × (rows_below rows ≡ [])
IsRowDrawn r layout closes s open_bars (OfferedLine j) row rows = Unit {0}
IsRowDrawn r layout closes s open_bars (RemovedLine i) row rows = Unit {0}
IsRowDrawn r layout closes s open_bars Other row rows = Unit {0}

-- each row is, where these bars are open above the first
abbrev pub AreRowsDrawn : Renderer → Layout → Bool → Snippet Annotation → List Bar → List NamedRow → Type 0
AreRowsDrawn r layout closes s open_bars [] = Unit {0}
AreRowsDrawn r layout closes s open_bars (row ∷ rows) =
    IsRowDrawn r layout closes s open_bars row.name row.cells rows × AreRowsDrawn r layout closes s (open_after s row.name open_bars) rows
