-- The rows of a snippet.
use Rattle.std.specs.Prelude.{ℕ, Bool, not, List, filter}
use Rattle.snippet_parts.specs.declared.entries.LineAnnotation.{LineAnnotation}
use Rattle.snippet_window.specs.declared.margin.Margin.{Margin}
use Rattle.snippet_window.specs.Window.{dropped_part}
use Rattle.snippet_grid.specs.Layout.{Layout}
use Rattle.snippet_style.specs.Cell.{Cell}
use Rattle.snippet_text.specs.Width.{width_of}
use Rattle.snippet_labels.specs.PlacedEntries.{is_end_part}
use Rattle.snippet_strokes.specs.declared.bars.OpenBar.{OpenBar}
use Rattle.snippet_strokes.specs.Bars.{with_bars}
use Rattle.snippet_strokes.specs.LineRows.{line_rows}
use Rattle.snippet_strokes.specs.SourceRows.{source_row, window_cells}
use Rattle.snippet_strokes.specs.StrokeRows.{bare_elision_row, highlighted_row}

-- the rows of a line whose gutter shows these characters, with this text and these entries, where these bars are open above it: its source
-- row shows the window of the text and is highlighted as its entries ask, and the rows are what the entries and those bars make of
-- that row, as far left as columns of the line are dropped
abbrev pub shown_rows : Layout → Margin → Bool → List OpenBar → List ℕ → List ℕ → List LineAnnotation → List (List Cell)
shown_rows layout margin closes open_bars number text es =
    let dropped = width_of (dropped_part margin.computed_left text) in
    let plain = source_row layout number (window_cells layout.decor margin text) in
    line_rows layout margin.term_width closes text dropped open_bars es
    (highlighted_row layout.code dropped (filter (λ e. not (is_end_part e.annotation_type)) es) plain)

-- the row that stands for lines that are left out, where these bars run past them
abbrev pub gap_row : Layout → List OpenBar → List Cell
gap_row layout open_bars = with_bars layout (λ strokes. strokes.elided_bar) open_bars (bare_elision_row layout.decor layout.gutter)
