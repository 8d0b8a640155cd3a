-- What the row of a source line shows, and what stands in a row that is none.
use Rattle.std.specs.Prelude.{◌≡◌, ℕ, ◌+◌, ◌-◌, ◌<◌, ◌≤◌, ◌&&◌, Bool, true, List, [], ◌∷◌, ◌++◌, length, map, take, drop, replicate}
use Rattle.std.specs.List.{count_by, slice_index_or}
use Rattle.std.specs.Cow.{cow_str_bytes}
use Rattle.snippet_style.specs.Cell.{Cell, SPACE, text_cells}
use Rattle.snippet_style.specs.declared.role.ElementStyle.TheVariants.{LineNumber}
use Rattle.snippet_grid.specs.Print.{row_text}
use Rattle.snippet_style.specs.declared.glyphs.DecorStyle.{DecorStyle}
use Rattle.snippet_text.specs.Normalized.{norm}
use Rattle.snippet_model.specs.declared.snippet.Snippet.{Snippet}
use Rattle.snippet_model.specs.declared.snippet.Annotation.{Annotation}
use Rattle.snippet_lines.specs.Lines.{source_lines}
use Rattle.snippet_labels.specs.PlacedEntries.{shifted}
use Rattle.snippet_parts.specs.Annotated.{parts_on}
use Rattle.snippet_parts.specs.Mark.{is_marked_on, is_wide}
use Rattle.snippet_window.specs.Window.{chars_at, stands_whole, IsWindowOf}
use Rattle.snippet_style.specs.Glyphs.{separator_of, placeholder_of}
use Rattle.snippet_strokes.specs.EntryMarks.{IsBarCell}
use Rattle.snippet_strokes.specs.SourceRows.{bare_row}
use Rattle.snippet_strokes.specs.Strokes.{is_uncut}
use Rattle.annotate_snippets.specs.declared.renderer.Renderer.{Renderer}
use Rattle.snippet_grid.specs.Layout.{Layout}
use Rattle.annotate_snippets.specs.GraphicForm.{margin_in}
use Rattle.annotate_snippets.specs.Gutter.{number_text, numbered_source}

-- how many spans that are marked below line k are wide
abbrev pub wide_spans : ℕ → ℕ → Snippet Annotation → ℕ → ℕ
wide_spans room placeholder_width s k =
    count_by (λ a. is_marked_on (cow_str_bytes s.source.text) k a && is_wide room placeholder_width (cow_str_bytes s.source.text) a) s.markers.items

-- whether no entry of line k is cut, where so many columns are dropped left of it: each that is wide is overlapped by another, or a label of
-- several pieces is beside it
abbrev pub is_uncut_line : Renderer → Layout → Snippet Annotation → ℕ → ℕ → Bool
is_uncut_line r layout s k dropped =
    is_uncut (r.term_width - layout.code) layout (map (shifted dropped) (parts_on (numbered_source s) s.markers.items k))

-- after the separator and the space after it, the cells of a row left of the code hold nothing but bars and their corners
abbrev pub HasBarsAlone : DecorStyle → Layout → List Cell → Type 0
HasBarsAlone decor layout row =
    (c : ℕ) → layout.gutter + 3 ≤ c → c < layout.code → IsBarCell decor (slice_index_or row c SPACE)

-- what stands left of the bars beside a line: what the gutter shows there, spaces up to the separator, and the separator
abbrev pub cells_left : DecorStyle → ℕ → List ℕ → List Cell
cells_left decor gutter shown =
    text_cells LineNumber shown ++ (replicate (gutter + 1 - length shown) SPACE ++ text_cells LineNumber (separator_of decor ∷ []))

-- the row shows line k: left of the code its number, the separator after it, a space and bars, and nothing else, each in its role; so
-- the number is what is read, and no cell there is in the role of marks but a bar's. From the code's cell to its end stands the window
-- of the line's normalised text between the snippet's bounds, left of which so many columns are dropped; where the line stands
-- whole, all of it
pub record ShowsSourceLine (r : Renderer) (layout : Layout) (s : Snippet Annotation) (k dropped : ℕ) (row : List Cell) : Type 0 where
  pub within : k < length (source_lines (cow_str_bytes s.source.text))
  pub left : take (layout.gutter + 2) row ≡ cells_left layout.decor layout.gutter (number_text r s.line_numbering layout.gutter (s.line_start + k))
  pub space : slice_index_or row (layout.gutter + 2) SPACE ≡ SPACE
  pub bars : HasBarsAlone layout.decor layout row
  pub window : IsWindowOf (placeholder_of layout.decor) (margin_in r layout s)
      (wide_spans (r.term_width - layout.code) (length (placeholder_of layout.decor)) s k) (norm (chars_at (cow_str_bytes s.source.text) k)) dropped
      (row_text (drop layout.code row))
  pub whole : stands_whole (r.term_width - layout.code) (length (placeholder_of layout.decor)) s.fold (cow_str_bytes s.source.text) s.markers.items k ≡ true
      → (dropped ≡ 0) × (row_text (drop layout.code row) ≡ norm (chars_at (cow_str_bytes s.source.text) k))

-- a row below that of a line: up to the bars it has just the cells of a separator row, or where the group's window closes with it
-- those of a closing row, so that it can't be taken for the row of a line; and between these and the code nothing but bars
pub record IsRowBelow (decor : DecorStyle) (layout : Layout) (closes : Bool) (row : List Cell) : Type 0 where
  pub left : (c : ℕ) → c < layout.gutter + 3 → slice_index_or row c SPACE ≡ slice_index_or (bare_row decor layout.gutter closes) c SPACE
  pub bars : HasBarsAlone decor layout row
