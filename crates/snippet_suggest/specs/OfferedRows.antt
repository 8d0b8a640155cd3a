-- The rows of lines that are offered, as they are drawn.
use Rattle.std.specs.Prelude.{ℕ, List, [], length, map}
use Rattle.std.specs.List.{slice_index_or}
use Rattle.snippet_style.specs.declared.role.ElementStyle.TheVariants.{LineNumber}
use Rattle.snippet_style.specs.Cell.{Cell}
use Rattle.snippet_lines.specs.Number.{shown_number}
use Rattle.snippet_splice.specs.declared.stretches.SubstitutionHighlight.{SubstitutionHighlight}
use Rattle.snippet_splice.specs.StretchLines.{line_stretches}
use Rattle.snippet_style.specs.declared.glyphs.SuggestionGlyph.{SuggestionGlyph}
use Rattle.snippet_suggest.specs.declared.kind.DisplaySuggestion.{DisplaySuggestion}
use Rattle.snippet_suggest.specs.declared.layout.SuggestionLayout.{SuggestionLayout}
use Rattle.snippet_suggest.specs.declared.lines.SuggestedText.{SuggestedText}
use Rattle.snippet_suggest.specs.declared.shown_lines.SuggestionLine.{SuggestionLine}
use Rattle.snippet_suggest.specs.declared.shown_lines.SuggestionLine.TheVariants.{Line, Gap}
use Rattle.snippet_style.specs.Glyphs.{suggestion_glyph_of, suggestion_role_of}
use Rattle.snippet_grid.specs.Layout.{separator_cell}
use Rattle.snippet_window.specs.Margin.{capped_sum}
use Rattle.snippet_suggest.specs.Cells.{put, offered_cells, gap_cells}

-- what stands left of a line in its row: a glyph after the gutter, and the line's number from the first cell on
unfoldable pub opened_cells : SuggestionLayout → SuggestionGlyph → ℕ → List Cell
opened_cells layout glyph number =
    put LineNumber (shown_number layout.numbers layout.base.gutter number) 0
    (put (suggestion_role_of glyph) (suggestion_glyph_of layout.base.decor glyph) (separator_cell layout.base) [])

-- the row of a line of some that is shown, of which the first has this number, and one in place of lines that are left out
abbrev pub suggestion_row : SuggestionLayout → DisplaySuggestion → ℕ → List (List ℕ) → (ℕ → List SubstitutionHighlight) → SuggestionLine → List Cell
suggestion_row layout kind first lines stretches (Line k) =
    offered_cells layout kind (length lines) (capped_sum first k) (slice_index_or lines k []) (stretches k)
suggestion_row layout kind first lines stretches Gap = gap_cells layout

-- the lines of a text of a suggestion
abbrev pub lines_shown : SuggestedText → List (List ℕ)
lines_shown text = map (λ l. l.now) text.lines.now

-- and the row of one of them, or one in place of some that are left out
abbrev pub row_shown : SuggestionLayout → SuggestedText → SuggestionLine → List Cell
row_shown layout text line = suggestion_row layout text.kind text.first (lines_shown text) (line_stretches text.stretches.now) line
