-- The marks below a line: in which cells they stand, and of which kind each is.
use Rattle.std.specs.Prelude.{◌≡◌, ℕ, ◌+◌, ◌-◌, ◌<◌, ◌≤◌, true, false, List, [], ◌∷◌, All, filter, length, drop}
use Rattle.std.specs.List.{slice_index_or}
use Rattle.std.specs.Option.{option_map}
use Rattle.std.specs.Cow.{cow_str_bytes}
use Rattle.snippet_style.specs.Cell.{Cell, SPACE}
use Rattle.snippet_grid.specs.Print.{row_text}
use Rattle.snippet_style.specs.declared.glyphs.DecorStyle.{DecorStyle}
use Rattle.snippet_text.specs.Normalized.{normalized_chars}
use Rattle.snippet_model.specs.declared.snippet.Snippet.{Snippet}
use Rattle.snippet_model.specs.declared.snippet.Annotation.{Annotation}
use Rattle.snippet_model.specs.declared.snippet.AnnotationKind.{AnnotationKind}
use Rattle.snippet_labels.specs.Pieces.{label_pieces}
use Rattle.snippet_parts.specs.Mark.{is_marked_on, start_column, end_column, IsMarkedAt, IsMarkOf}
use Rattle.snippet_strokes.specs.EntryMarks.{IsMarkCell, is_mark_role}
use Rattle.snippet_grid.specs.Layout.{Layout, code_cell}

-- the characters that a span's label shows, which are none where it has no label
abbrev pub shown_label : Annotation → List ℕ
shown_label a = normalized_chars (option_map cow_str_bytes a.label)

-- the first piece of it, where it begins at this cell
abbrev pub first_piece : Layout → ℕ → Annotation → List ℕ
first_piece layout cell a = slice_index_or (label_pieces layout cell (shown_label a)) 0 []

-- the cell of a column of the code, where so many columns are dropped from the line. No column that is marked is dropped, and
-- the clauses below speak of columns that aren't: so the difference never stops at 0
abbrev pub cell_of : Layout → ℕ → ℕ → ℕ
cell_of layout dropped p = code_cell layout p - dropped

-- the row has the marks of line k: below each column that has a mark it holds a glyph of the mark's kind, as the decor draws
-- it, in the role of its strokes; below any other column no cell is in the role of marks, and left of all spans of the line
-- stand spaces. Where no span on the line has a label that shows anything, every cell that is no mark is a space, from the
-- code's cell on. Where the line has one span alone and the first piece of its label shows anything, the row goes on after the span's last
-- column with a space and that piece, and ends
pub record ShowsMarksOf (decor : DecorStyle) (layout : Layout) (s : Snippet Annotation) (k dropped : ℕ) (row : List Cell) : Type 0 where
  pub marks : (p : ℕ) (kind : AnnotationKind) → IsMarkOf (cow_str_bytes s.source.text) s.markers.items k p kind
      → IsMarkCell decor kind (slice_index_or row (cell_of layout dropped p) SPACE)
  pub unmarked : (p : ℕ) → dropped ≤ p → All (λ a. IsMarkedAt (cow_str_bytes s.source.text) k p a → ⊥) s.markers.items
      → is_mark_role (slice_index_or row (cell_of layout dropped p) SPACE).role ≡ false
  pub before : (p : ℕ) → dropped ≤ p
      → All (λ a. is_marked_on (cow_str_bytes s.source.text) k a ≡ true → p < start_column (cow_str_bytes s.source.text) a) s.markers.items
      → slice_index_or row (cell_of layout dropped p) SPACE ≡ SPACE
  pub spaces : All (λ a. is_marked_on (cow_str_bytes s.source.text) k a ≡ true → shown_label a ≡ []) s.markers.items → (p : ℕ) → dropped ≤ p
      → All (λ a. IsMarkedAt (cow_str_bytes s.source.text) k p a → ⊥) s.markers.items → slice_index_or row (cell_of layout dropped p) SPACE ≡ SPACE
  pub lone : (a : Annotation) → filter (is_marked_on (cow_str_bytes s.source.text) k) s.markers.items ≡ a ∷ []
      → let end = cell_of layout dropped (end_column (cow_str_bytes s.source.text) a) in
      0 < length (first_piece layout (end + 1) a) → row_text (drop end row) ≡ 32 ∷ first_piece layout (end + 1) a
