-- The rows of the lines of a source that are shown, and of the gaps between them.
use Rattle.std.specs.Prelude.{ℕ, ◌+◌, ◌==◌, ◌&&◌, List, [], ◌∷◌, ◌++◌, chars, if◌then◌else◌, length, nat_lt}
use Rattle.snippet_parts.specs.declared.entries.AnnotatedLineInfo.{AnnotatedLineInfo}
use Rattle.snippet_grid.specs.Layout.{Layout}
use Rattle.snippet_style.specs.Cell.{Cell}
use Rattle.snippet_text.specs.Normalized.{norm}
use Rattle.snippet_strokes.specs.declared.bars.OpenBar.{OpenBar}
use Rattle.snippet_strokes.specs.declared.snippet.LineView.{LineView}
use Rattle.snippet_strokes.specs.DrawnBars.{open_below}
use Rattle.snippet_lines.specs.Number.{shown_number}
use Rattle.snippet_strokes.specs.Snippet.{shown_rows, gap_row}

-- the rows of a line that is shown
abbrev pub info_rows : Layout → LineView → List OpenBar → AnnotatedLineInfo → List (List Cell)
info_rows layout view open_bars info =
    shown_rows layout view.margin view.closes open_bars (shown_number view.numbers layout.gutter info.line_index) (norm (chars info.line.now))
    info.annotations.items

-- what stands between the rows of a line of this number and those of the next of these lines: the row for the lines that are left
-- out, if there are any, with the bars that are open there
abbrev pub gap_rows : Layout → List OpenBar → ℕ → List AnnotatedLineInfo → List (List Cell)
gap_rows layout open_bars number [] = []
gap_rows layout open_bars number (next ∷ infos) =
    if nat_lt (number + 1) next.line_index then gap_row layout open_bars ∷ [] else []

-- the rows of these lines, where these bars are open above the first; the window may close with the last
abbrev pub infos_rows : Layout → LineView → List OpenBar → List AnnotatedLineInfo → List (List Cell)
infos_rows layout view open_bars [] = []
infos_rows layout view open_bars (info ∷ infos) =
    let below = open_below open_bars info.annotations.items in
    info_rows layout (record view { closes = view.closes && length infos == 0 }) open_bars info
    ++ (gap_rows layout below info.line_index infos ++ infos_rows layout view below infos)
