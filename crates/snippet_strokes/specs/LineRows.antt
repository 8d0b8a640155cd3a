-- The rows of a line, as what its entries and the bars that are open above it make of its source row.
use Rattle.std.specs.Prelude.{ℕ, Bool, List, [], ◌∷◌, map, if◌then◌else◌}
use Rattle.snippet_style.specs.Cell.{Cell}
use Rattle.snippet_style.specs.Separators.{closing_row}
use Rattle.snippet_parts.specs.declared.entries.LineAnnotation.{LineAnnotation}
use Rattle.snippet_strokes.specs.declared.bars.OpenBar.{OpenBar}
use Rattle.snippet_grid.specs.Layout.{Layout}
use Rattle.snippet_strokes.specs.Bars.{bars_apart, ends_of_bars, is_beside, with_bars}
use Rattle.snippet_labels.specs.PlacedEntries.{shifted}
use Rattle.snippet_strokes.specs.Squeezed.{middles_replaced, squeezed}
use Rattle.snippet_strokes.specs.Strokes.{stroke_rows}
use Rattle.std.specs.List.{list_all}

-- the rows that a line has by its own entries, of which so many columns are dropped: without entries its source row, and a closing row
-- where the window closes with the line; where each entry is drawn by bars alone the source row alone, with the tops of its bars beside it;
-- and else the rows of its strokes, from which the middles of wide spans are cut out first where labels are broken
abbrev pub own_rows : Layout → ℕ → Bool → List ℕ → ℕ → List LineAnnotation → List Cell → List (List Cell)
own_rows layout room closes text dropped [] source =
    source ∷ (if closes then closing_row layout.decor layout.gutter ∷ [] else [])
own_rows layout room closes text dropped (e ∷ es) source =
    if list_all (is_beside text) (e ∷ es) then with_bars layout (λ strokes. strokes.whole_line) (ends_of_bars (e ∷ es)) source ∷ []
    else (let line = squeezed layout room (map (shifted dropped) (e ∷ es)) in
    stroke_rows layout room closes line.0 (middles_replaced layout room line.1 source))

-- the rows of a line, where these bars are open above it: its own, and over each of them the bars that run past, which are drawn last
abbrev pub line_rows : Layout → ℕ → Bool → List ℕ → ℕ → List OpenBar → List LineAnnotation → List Cell → List (List Cell)
line_rows layout room closes text dropped open_bars es source =
    map (with_bars layout (λ strokes. strokes.bar) (bars_apart open_bars (ends_of_bars es))) (own_rows layout room closes text dropped es source)
