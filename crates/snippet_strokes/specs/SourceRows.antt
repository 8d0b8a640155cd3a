-- The source row of a line, and the rows below it before any stroke is drawn.
use Rattle.std.specs.Prelude.{ℕ, Bool, List, [], ◌∷◌, if◌then◌else◌}
use Rattle.snippet_window.specs.declared.margin.Margin.{Margin}
use Rattle.snippet_window.specs.Window.{inner_part, covered_columns, uncovered_part, covered_end}
use Rattle.snippet_style.specs.declared.glyphs.DecorStyle.{DecorStyle}
use Rattle.snippet_style.specs.declared.role.ElementStyle.TheVariants.{LineNumber, Quotation}
use Rattle.snippet_style.specs.Glyphs.{placeholder_of}
use Rattle.snippet_style.specs.Separators.{closing_row, separator_row}
use Rattle.snippet_style.specs.Cell.{Cell, SPACE, text_cells, written}
use Rattle.snippet_grid.specs.Layout.{Layout}
use Rattle.std.specs.Option.{option_map_or}

-- the row of a padding, and one of strokes before any is drawn: the closing row where the window closes with it, else the separator row
abbrev pub bare_row : DecorStyle → ℕ → Bool → List Cell
bare_row decor gutter closes = if closes then closing_row decor gutter else separator_row decor gutter

-- a row with these cells from this one on, if there are any; a row without any stays
abbrev pub with_cells : ℕ → List Cell → List Cell → List Cell
with_cells code [] row = row
with_cells code (cell ∷ cells) row = written SPACE row code (cell ∷ cells)

-- the cells of the window of a text between the bounds of a margin: the text has the role of a quotation, placeholders that of line
-- numbers. Where lines are cut on the left, a placeholder begins it, and what is left of the text stands after the columns that this covers;
-- where the line is cut on the right, the placeholder stands over its end
abbrev pub window_cells : DecorStyle → Margin → List ℕ → List Cell
window_cells decor margin text =
    let left = margin.computed_left in
    let right = margin.computed_right in
    let inner = inner_part margin.term_width left right text in
    let shown = text_cells Quotation (uncovered_part left (placeholder_of decor) inner) in
    let placeholder = text_cells LineNumber (placeholder_of decor) in
    let begun = option_map_or (λ columns. with_cells columns shown placeholder) (covered_columns left (placeholder_of decor) inner) shown in
    option_map_or (λ at. written SPACE begun at placeholder) (covered_end margin.term_width left right (placeholder_of decor) text) begun

-- a source row: what the gutter shows is written over the row of the separator, and then come the cells of the code, from the
-- code's cell on, if there are any
abbrev pub source_row : Layout → List ℕ → List Cell → List Cell
source_row layout shown cells =
    with_cells layout.code cells (written SPACE (separator_row layout.decor layout.gutter) 0 (text_cells LineNumber shown))
