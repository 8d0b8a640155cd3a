-- Where the bar of a span of several lines stands in the rows of the line on which the span ends, and cells in which no bar does.
use Rattle.std.specs.Prelude.{◌≡◌, ◌⊎◌, ℕ, ◌<◌, Bool, List, length}
use Rattle.snippet_style.specs.Glyphs.{strokes_of, underline_role}
use Rattle.snippet_style.specs.Cell.{Cell, SPACE, unlinked_cell}
use Rattle.snippet_style.specs.declared.glyphs.DecorStyle.{DecorStyle}
use Rattle.snippet_grid.specs.Grid.{cell_at}
use Rattle.snippet_grid.specs.Layout.{Layout, bar_cell}
use Rattle.snippet_strokes.specs.Bars.{Bar}

-- no bar stands in the cell: it is a space, or a part of a line that leads from another bar to a mark
abbrev pub IsNoBar : DecorStyle → Cell → Type 0
IsNoBar decor cell =
    (cell ≡ SPACE) ⊎ ((primary : Bool) × (cell ≡ unlinked_cell (underline_role primary) (strokes_of decor primary).connector))

-- in the rows of a line the bar ends: in one below the source row stands its corner, left of the line that leads to the span's last mark,
-- in ASCII a part of the bar; and in each row above that, from the source row on, the bar
pub record BarEnds (layout : Layout) (bar : Bar) (rows : List (List Cell)) : Type 0 where
  pub corner : ℕ
  pub below : 0 < corner
  pub within : corner < length rows
  pub corner_is : cell_at rows corner (bar_cell layout bar.depth)
      ≡ unlinked_cell (underline_role bar.primary) (strokes_of layout.decor bar.primary).bar_bottom
  pub beside : (i : ℕ) → i < corner → cell_at rows i (bar_cell layout bar.depth)
      ≡ unlinked_cell (underline_role bar.primary) (strokes_of layout.decor bar.primary).bar
