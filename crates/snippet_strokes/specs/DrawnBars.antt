-- Bars beside rows, as they are drawn, and what they need.
use Rattle.std.specs.Prelude.{◌≡◌, ◌<◌, ◌+◌, ◌==◌, ℕ, Bool, false, Option, All, List, [], ◌∷◌, ◌++◌, drop, map, take}
use Rattle.std.specs.List.{list_all, list_any}
use Rattle.snippet_parts.specs.declared.entries.LineAnnotation.{LineAnnotation}
use Rattle.snippet_style.specs.Glyphs.{strokes_of, underline_role}
use Rattle.snippet_style.specs.Cell.{Cell, unlinked_cell}
use Rattle.snippet_style.specs.declared.glyphs.DecorStyle.{DecorStyle}
use Rattle.snippet_grid.specs.Layout.{Layout, bar_cell, inner_cell}
use Rattle.snippet_strokes.specs.declared.bars.OpenBar.{OpenBar}
use Rattle.snippet_strokes.specs.declared.bars.BarStroke.{BarStroke}
use Rattle.snippet_strokes.specs.declared.bars.BarStroke.TheVariants.{Top, Solid, Dotted}
use Rattle.snippet_model.specs.AnnotationKind.{is_primary}
use Rattle.snippet_style.specs.declared.glyphs.Strokes.{Strokes}
use Rattle.snippet_strokes.specs.Bars.{bar_at, ends_of_bars, open_past, with_bars, is_beside}

-- the bar that an entry opens or closes
abbrev pub bar_of : LineAnnotation → Option OpenBar
bar_of e = bar_at e.annotation_type (is_primary e.kind)

-- whether one of these bars has this depth
abbrev pub has_depth : List OpenBar → ℕ → Bool
has_depth bars depth = list_any (λ b. b.depth == depth) bars

-- of some bars none but this one has its depth
abbrev pub HasOwnDepth : OpenBar → List OpenBar → Type 0
HasOwnDepth bar bars = All (λ b. b.depth ≡ bar.depth → b ≡ bar) bars

-- the same, for a line of these entries
abbrev pub open_below : List OpenBar → List LineAnnotation → List OpenBar
open_below open_bars es = open_past open_bars (ends_of_bars es)

-- there is a cell for a bar, and one after it, between the separator and the code
abbrev pub HasBarRoom : Layout → OpenBar → Type 0
HasBarRoom layout bar = (0 < bar.depth) × (inner_cell layout + bar.depth < layout.code)

-- bars that are drawn with a source row fit beside it: each has its cells, and none of those that run past it has the depth of a top
pub record FitBeside (layout : Layout) (tops past : List OpenBar) : Type 0 where
  pub tops_room : All (HasBarRoom layout) tops
  pub past_room : All (HasBarRoom layout) past
  pub apart : All (λ bar. has_depth tops bar.depth ≡ false) past

-- some bars that stand side by side, so many from this one on, have a cell each, and one after them, between the separator and the code
pub record HasSideRoom (layout : Layout) (first : OpenBar) (count : ℕ) : Type 0 where
  pub left : 0 < first.depth
  pub room : bar_cell layout first.depth + count < layout.code
  pub some : 0 < count

-- a bar stands so many cells right of the first of some, and is drawn in its role
pub record StandsBeside (first : OpenBar) (cells : ℕ) (bar : OpenBar) : Type 0 where
  pub depth : bar.depth ≡ first.depth + cells
  pub primary : bar.primary ≡ first.primary

-- the glyph of a part of a bar: its top beside a whole line, a part of it beside a line, or beside lines that aren't shown
abbrev pub part_glyph : BarStroke → Strokes → ℕ
part_glyph Top strokes = strokes.whole_line
part_glyph Solid strokes = strokes.bar
part_glyph Dotted strokes = strokes.elided_bar

abbrev pub bar_glyph : BarStroke → DecorStyle → Bool → ℕ
bar_glyph stroke decor primary = part_glyph stroke (strokes_of decor primary)

-- the cell of a part of a bar: its glyph, in the role of its strokes
abbrev pub bar_cell_part : Layout → BarStroke → OpenBar → Cell
bar_cell_part layout stroke bar =
    unlinked_cell (underline_role bar.primary) (bar_glyph stroke layout.decor bar.primary)

-- rows of which each from `row` on is changed by a rule
abbrev pub changed_from : (List Cell → List Cell) → ℕ → List (List Cell) → List (List Cell)
changed_from rule row rows = take row rows ++ map rule (drop row rows)

-- rows with parts of these bars in each from `row` on
abbrev pub barred : Layout → BarStroke → List OpenBar → ℕ → List (List Cell) → List (List Cell)
barred layout stroke bars row rows = changed_from (with_bars layout (part_glyph stroke) bars) row rows

-- whether a line is marked as a whole: it has entries, and each is drawn by bars alone
abbrev pub is_whole_line : List ℕ → List LineAnnotation → Bool
is_whole_line text [] = false
is_whole_line text (e ∷ es) = list_all (is_beside text) (e ∷ es)
