-- What the rows of a suggestion show.
use Rattle.std.specs.Prelude.{◌≡◌, ◌⊎◌, ℕ, ◌+◌, ◌-◌, ◌<◌, ◌≤◌, false, List, [], ◌∷◌, ◌++◌, All, Contains, length, map, take, drop, chars}
use Rattle.std.specs.List.{AllZip, slice_index_or}
use Rattle.std.specs.Char.{is_ascii_alphanumeric}
use Rattle.std.specs.Cow.{cow_str_bytes}
use Rattle.snippet_style.specs.Cell.{Cell, SPACE}
use Rattle.snippet_grid.specs.Print.{row_text}
use Rattle.snippet_style.specs.declared.glyphs.DecorStyle.{DecorStyle}
use Rattle.snippet_text.specs.Normalized.{norm}
use Rattle.snippet_model.specs.declared.snippet.Snippet.{Snippet}
use Rattle.snippet_model.specs.declared.snippet.Patch.{Patch}
use Rattle.snippet_parts.specs.Entries.{Ascends}
use Rattle.snippet_lines.specs.Lines.{source_lines, text_at}
use Rattle.snippet_splice.specs.Edits.{patched}
use Rattle.snippet_splice.specs.Spliced.{IsTouched}
use Rattle.snippet_suggest.specs.Given.{IsOfferable, edits_of, first_given, given_lines, last_reached, shown_kind}
use Rattle.snippet_suggest.specs.Kind.{is_blank_text}
use Rattle.snippet_suggest.specs.RowOrder.{Begins, Empty, Ends, Skips, SuggestionRow, removed_number}
use Rattle.snippet_suggest.specs.SuggestionRows.{HasLeft, IsBareRow, IsRemovedRow, IsSign, begin_glyph, beside_gutter, end_glyph, gap_left}
use Rattle.snippet_suggest.specs.Cells.{sign_of}
use Rattle.snippet_suggest.specs.Suggested.{new_on}
use Rattle.snippet_style.specs.Glyphs.{suggestion_glyph_of}
use Rattle.annotate_snippets.specs.declared.renderer.Renderer.{Renderer}
use Rattle.snippet_grid.specs.Layout.{Layout}
use Rattle.annotate_snippets.specs.declared.renderer.element_context.ElementContext.{ElementContext}
use Rattle.annotate_snippets.specs.ElementContext.{suggestion_rows}
use Rattle.annotate_snippets.specs.DrawnReport.{suggestion_lines}
use Rattle.annotate_snippets.specs.GraphicForm.{name_of_row}
use Rattle.annotate_snippets.specs.Gutter.{line_numbers, number_text}
use Rattle.annotate_snippets.specs.Page.{RowName, OfferedLine, RemovedLine, Other, NamedRow, lines_offered, cells_of, others}
use Rattle.annotate_snippets.specs.RowsWithoutSource.{suggestion_head}

-- the row offers line j of the patched source: its number in the gutter, a separator, `+` or the glyph of a changed line after
-- it, which where the number ends before it is the one that the kind, the number of lines and the line's new stretches ask for, and no
-- other letter or digit between them and the line; and three cells after the gutter, to the row's end, the
-- normalised line of the text that is shown, which is the patched source's, for all sources that the promise speaks of
pub record IsOfferedRow (r : Renderer) (decor : DecorStyle) (gutter : ℕ) (s : Snippet Patch) (j : ℕ) (row : List Cell) : Type 0 where
  pub from : first_given s ≤ j
  pub within : j < first_given s + length (given_lines s)
  pub number : let shown = number_text r s.line_numbering gutter (s.line_start + j) in row_text (take (length shown) row) ≡ shown
  pub beside : (c : ℕ) → length (number_text r s.line_numbering gutter (s.line_start + j)) ≤ c → c < gutter + 3
      → is_ascii_alphanumeric (slice_index_or row c SPACE).ch ≡ false
  pub sign : IsSign decor (slice_index_or row (gutter + 1) SPACE).ch
  pub asked : length (number_text r s.line_numbering gutter (s.line_start + j)) ≤ gutter + 1 → let k = j - first_given s in
      (slice_index_or row (gutter + 1) SPACE).ch ≡ slice_index_or (suggestion_glyph_of decor (sign_of (shown_kind s) (length (given_lines s))
      (slice_index_or (given_lines s) k []) (new_on s k))) 0 32
  pub space : (slice_index_or row (gutter + 2) SPACE).ch ≡ 32
  pub line : row_text (drop (gutter + 3) row) ≡ norm (chars (slice_index_or (given_lines s) (j - first_given s) []))
  pub patched_line : IsOfferable s
      → (j < length (source_lines (patched (cow_str_bytes s.source.text) (edits_of s))))
      × (row_text (drop (gutter + 3) row) ≡ norm (chars (text_at (source_lines (patched (cow_str_bytes s.source.text) (edits_of s))) j)))

-- a row of a suggestion is what its name says: it offers a line; or it shows a line of the source as removed: with the number
-- beside it, if that ends before the sign, `-` after the gutter, the line's normalised text from three cells after it on, and no letter
-- before the sign, but `LL`, or after the text; or it shows no line: it holds nothing but what stands left of lines, and after that marks
abbrev pub IsSuggestionRow : Renderer → DecorStyle → ℕ → Snippet Patch → RowName → List Cell → Type 0
IsSuggestionRow r decor gutter s (OfferedLine j) row = IsOfferedRow r decor gutter s j row
IsSuggestionRow r decor gutter s (RemovedLine i) row =
    IsRemovedRow (line_numbers r s.line_numbering) decor gutter (number_text r s.line_numbering gutter (removed_number s i))
    (norm (chars (text_at (source_lines (cow_str_bytes s.source.text)) i))) row
IsSuggestionRow r decor gutter s Other row = IsBareRow decor gutter row
IsSuggestionRow r decor gutter s name row = ⊥

-- left of the lines a row of a suggestion that shows none holds just what such a row has: what the suggestion begins or ends with,
-- what stands for lines that are left out, or nothing
abbrev pub HasStrokes : DecorStyle → ℕ → SuggestionRow → List Cell → Type 0
HasStrokes decor gutter (Begins start) row = HasLeft gutter (beside_gutter gutter (begin_glyph decor start)) row
HasStrokes decor gutter Skips row = HasLeft gutter (gap_left decor gutter) row
HasStrokes decor gutter Empty row = HasLeft gutter [] row
HasStrokes decor gutter (Ends follows) row = HasLeft gutter (beside_gutter gutter (end_glyph decor follows)) row
HasStrokes decor gutter shows row = Unit {0}

-- the rows show a suggestion: after the row of its path, where it names that, stand the rows that it has, in this order and no others.
-- So they offer lines of the patched source, each once and in order, they show as removed the lines of the source that it takes away,
-- in order, above the line in their place, where one stands there; and each row is what its name says. Each line
-- that a patch touches is offered, if it isn't blank; but not where one line is given, and that is the last source line that is
-- reached. Where the suggestion begins in the row in which the one before it ends, that row holds what is found there
pub record ShowsSuggestion (r : Renderer) (layout : Layout) (around : ElementContext) (found : List Cell) (s : Snippet Patch)
    (rows : List NamedRow) : Type 0 where
  pub after : List NamedRow
  pub rows_are : rows ≡ others (suggestion_head r layout around s) ++ after
  pub offered : IsOfferable s → (j : ℕ) → IsTouched (cow_str_bytes s.source.text) (edits_of s) j
      → is_blank_text (text_at (source_lines (patched (cow_str_bytes s.source.text) (edits_of s))) j) ≡ false
      → (given_lines s ≡ last_reached s ∷ []) ⊎ Contains (lines_offered after) j
  pub order : map (λ row. row.name) after ≡ map (name_of_row s) (suggestion_rows around s)
  pub cells : cells_of after ≡ suggestion_lines r layout around found s
  pub strokes : AllZip (HasStrokes layout.decor layout.gutter) (suggestion_rows around s) (cells_of after)
  pub ordered : Ascends (lines_offered after)
  pub named : All (λ row. IsSuggestionRow r layout.decor layout.gutter s row.name row.cells) after
