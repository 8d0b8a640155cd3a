-- The corners of the bar of a span of several lines, and where it stands in the rows of the line on which the span begins, by which laws
-- are proved.
use Rattle.snippet_strokes.proofs.Common.{◌≡◌, ◌⊎◌, ℕ, ◌<◌, List, length, Cell, SPACE, unlinked_cell, strokes_of, underline_role, cell_at}
use Rattle.snippet_strokes.proofs.Common.{Layout, bar_cell, Bar, bar_cell_part, Solid, Top}

-- the corner at which a bar begins, left of the line that leads to the span's first mark: in ASCII a space
abbrev pub start_corner : Layout → Bar → Cell
start_corner layout bar = unlinked_cell (underline_role bar.primary) (strokes_of layout.decor bar.primary).bar_top

-- the corner at which it ends, left of the line that leads to the span's last mark: in ASCII a part of the bar
abbrev pub end_corner : Layout → Bar → Cell
end_corner layout bar = unlinked_cell (underline_role bar.primary) (strokes_of layout.decor bar.primary).bar_bottom

-- in the rows of a line the bar begins: in one below the source row stands its corner, and in each row below that the bar; in the
-- source row a space stands in its cell
pub record BeginsBelow (layout : Layout) (bar : Bar) (rows : List (List Cell)) : Type 0 where
  pub corner : ℕ
  pub below : 0 < corner
  pub within : corner < length rows
  pub corner_is : cell_at rows corner (bar_cell layout bar.depth) ≡ start_corner layout bar
  pub source : cell_at rows 0 (bar_cell layout bar.depth) ≡ SPACE
  pub beside : (i : ℕ) → corner < i → i < length rows → cell_at rows i (bar_cell layout bar.depth) ≡ bar_cell_part layout Solid bar

-- or its top stands in the source row, below which the line has none
pub record BeginsBeside (layout : Layout) (bar : Bar) (rows : List (List Cell)) : Type 0 where
  pub alone : length rows ≡ 1
  pub top : cell_at rows 0 (bar_cell layout bar.depth) ≡ bar_cell_part layout Top bar

-- in the rows of a line the bar begins, in one of these ways
abbrev pub BarBegins : Layout → Bar → List (List Cell) → Type 0
BarBegins layout bar rows = BeginsBeside layout bar rows ⊎ BeginsBelow layout bar rows
