-- The labels of a line's spans: where each stands, and that none is lost.
use Rattle.std.specs.Prelude.{◌≡◌, ◌⊎◌, ℕ, ◌+◌, ◌-◌, ◌<◌, ◌≤◌, ◌==◌, ◌&&◌, nat_le, nat_lt, max, Bool, false, true, List, [], ◌∷◌, ◌++◌, All, filter, length}
use Rattle.std.specs.Prelude.{map}
use Rattle.std.specs.Cow.{cow_str_bytes}
use Rattle.std.specs.List.{count_by, slice_index_or, slice_split}
use Rattle.snippet_grid.specs.Grid.{cell_at}
use Rattle.snippet_grid.specs.Print.{row_text}
use Rattle.snippet_style.specs.Cell.{Cell, unlinked_cell}
use Rattle.snippet_style.specs.declared.glyphs.DecorStyle.{DecorStyle}
use Rattle.snippet_text.specs.Normalized.{normalized_chars}
use Rattle.snippet_text.specs.Width.{width_of}
use Rattle.snippet_model.specs.declared.snippet.Snippet.{Snippet}
use Rattle.snippet_model.specs.declared.snippet.Annotation.{Annotation}
use Rattle.snippet_model.specs.declared.snippet.AnnotationKind.{AnnotationKind}
use Rattle.snippet_parts.specs.declared.entries.LineAnnotation.{LineAnnotation}
use Rattle.snippet_parts.specs.Annotated.{promoted, is_long, long_spans}
use Rattle.snippet_parts.specs.Mark.{is_marked_on, start_column, end_column}
use Rattle.snippet_parts.specs.Marked.{first_line}
use Rattle.snippet_labels.specs.Pieces.{label_pieces, shows_any}
use Rattle.snippet_shown.specs.Letters.{letters_of}
use Rattle.snippet_shown.specs.WrapLaws.{AreRowsWithin, IsRewrapped}
use Rattle.snippet_labels.specs.PlacedEntries.{label_role}
use Rattle.snippet_strokes.specs.Labels.{IsStemCell, IsStrokeCell}
use Rattle.snippet_grid.specs.Layout.{Layout, code_cell}
use Rattle.annotate_snippets.specs.Gutter.{numbered_source}
use Rattle.annotate_snippets.specs.Laws.Marks.{shown_label, cell_of}

-- a label as it is to be drawn: the characters it shows, the kind whose role it has, and the columns at which its mark begins and ends
pub record SpanLabel : Type 0 where
  pub text : List ℕ
  pub kind : AnnotationKind
  pub from : ℕ
  pub to : ℕ

-- spans of several lines as they are drawn, each after those before it: one that has the place of a primary one is primary
abbrev pub promoted_spans : List LineAnnotation → List LineAnnotation → List LineAnnotation
promoted_spans before [] = []
promoted_spans before (e ∷ later) = promoted before e ∷ promoted_spans (before ++ e ∷ []) later

-- the labels of the spans that end on line k: first of those that stand on it alone, as given, and then of those of several lines, in their
-- order, each below its span's last column
abbrev pub labels_ending_on : Snippet Annotation → ℕ → List SpanLabel
labels_ending_on s k =
    let source = numbered_source s in
    map (λ (a : Annotation).
    record { text = shown_label a; kind = a.kind; from = start_column source.text a; to = end_column source.text a })
    (filter (is_marked_on source.text k) s.markers.items)
    ++ map (λ (e : LineAnnotation).
    record { text = normalized_chars e.label; kind = e.kind; from = e.end.display - 1; to = e.end.display })
    (filter (λ (e : LineAnnotation). e.end.line == source.first + k) (promoted_spans [] (long_spans source s.markers.items)))

-- where a label stands: in which of the rows below its line, from 0, and from which cell of it on
pub record ShownLabel : Type 0 where
  pub label : SpanLabel
  pub row : ℕ
  pub cell : ℕ

-- its pieces, which stand one below another: where labels are cut, the lines of its text, broken where they have no room right of that cell
abbrev pub pieces_shown : Layout → ShownLabel → List (List ℕ)
pieces_shown layout l = label_pieces layout l.cell l.label.text

-- whether a cell of those rows is one of the label's
abbrev pub is_in_label : Layout → ℕ → ℕ → ShownLabel → Bool
is_in_label layout r c l = nat_le l.row r && (nat_le l.cell c && nat_lt c (l.cell + length (slice_index_or (pieces_shown layout l) (r - l.row) [])))

-- a label stands whole in the rows below its line, piece below piece, in the role of labels of its kind: from the first of them on, that of
-- the marks, one cell after its mark, which takes a column even where it ends at column 0; or from a lower one on, below the mark's first
-- column
pub record ShowsLabel (layout : Layout) (dropped : ℕ) (rows : List (List Cell)) (l : ShownLabel) : Type 0 where
  pub whole : (i n : ℕ) → n < length (slice_index_or (pieces_shown layout l) i [])
      → cell_at rows (l.row + i) (l.cell + n) ≡ unlinked_cell (label_role l.label.kind) (slice_index_or (slice_index_or (pieces_shown layout l) i []) n 0)
  pub place : ((l.row ≡ 0) × (l.cell ≡ code_cell layout (max (l.label.to - dropped) 1) + 1)) ⊎ ((0 < l.row) × (l.cell ≡ cell_of layout dropped l.label.from))

-- a label with room for 20 columns is broken as titles and messages are: its pieces are the lines of a text that is shown in place of its
-- own, and none goes past where labels are to end
pub record IsBroken (layout : Layout) (l : ShownLabel) : Type 0 where
  pub text : List ℕ
  pub lines : pieces_shown layout l ≡ slice_split (λ c. c == 10) text
  pub kept : IsRewrapped (layout.label_end - l.cell) (letters_of false l.label.text) (letters_of false text)
  pub fits : AreRowsWithin false (layout.label_end - l.cell) (pieces_shown layout l)

-- what stands below line k beside labels has its place left of where these are to end: the code begins before that cell, and so does each span of
-- several lines that begins on the line; and each span that ends on the line ends there or before
pub record MarksHaveRoom (layout : Layout) (s : Snippet Annotation) (k dropped : ℕ) : Type 0 where
  pub code : layout.code < layout.label_end
  pub begin : All (λ a. is_long (cow_str_bytes s.source.text) a ≡ true → first_line (cow_str_bytes s.source.text) a ≡ k
      → code_cell layout (start_column (cow_str_bytes s.source.text) a - dropped) < layout.label_end) s.markers.items
  pub end : All (λ (l : SpanLabel). code_cell layout (l.to - dropped) ≤ layout.label_end) (labels_ending_on s k)

-- a stem leads from its mark down to a label that hangs below it: one stands in each row between, in the label's first cell, but where
-- that cell is one of these labels'
abbrev pub HasStem : DecorStyle → Layout → List ShownLabel → List (List Cell) → ShownLabel → Type 0
HasStem decor layout labels rows l =
    (r : ℕ) → 0 < r → r < l.row → count_by (is_in_label layout r l.cell) labels ≡ 0 → IsStemCell decor (cell_at rows r l.cell)

-- no label of line k is lost: of the spans that end on it, each that has a label to show has it in the rows below the line, whole, and
-- a stem leads to it; no cell belongs to two labels, so that two of the same words stand twice; each cell of these rows that belongs to none,
-- from the code's on, is a space or the glyph of a stroke, so that no other word stands there; where labels are cut each that has room for
-- 20 columns is broken for it; and if all have, no row of a label has more columns than there are up to where labels are to end, nor has any
-- below the line if the marks have room too
pub record ShowsLabels (decor : DecorStyle) (layout : Layout) (s : Snippet Annotation) (k dropped : ℕ) (rows : List (List Cell)) : Type 0 where
  pub labels : List ShownLabel
  pub spans : map (λ (l : ShownLabel). l.label) labels ≡ labels_ending_on s k
  pub stand : All (λ l. shows_any (pieces_shown layout l) ≡ true → ShowsLabel layout dropped rows l) labels
  pub led : All (λ l. shows_any (pieces_shown layout l) ≡ true → HasStem decor layout labels rows l) labels
  pub apart : (r c : ℕ) → count_by (is_in_label layout r c) labels ≤ 1
  pub others : (r c : ℕ) → layout.code ≤ c → count_by (is_in_label layout r c) labels ≡ 0 → IsStrokeCell decor (cell_at rows r c)
  pub broken : layout.label_lines ≡ true → All (λ l. l.cell + 20 ≤ layout.label_end → IsBroken layout l) labels
  pub within : layout.label_lines ≡ true → All (λ l. shows_any (pieces_shown layout l) ≡ true → l.cell + 20 ≤ layout.label_end) labels
      → All (λ l. shows_any (pieces_shown layout l) ≡ true → (i : ℕ) → i < length (pieces_shown layout l)
      → width_of (row_text (slice_index_or rows (l.row + i) [])) ≤ layout.label_end) labels
      × (MarksHaveRoom layout s k dropped → All (λ row. width_of (row_text row) ≤ layout.label_end) rows)
