-- The bars of spans of several lines: which are open beside a line, and what drawing them changes.
use Rattle.std.specs.Prelude.{◌==◌, ◌&&◌, ◌||◌, ℕ, not, Bool, Option, Some, None, List, [], ◌∷◌, ◌++◌, filter, fold}
use Rattle.std.specs.Prelude.{take}
use Rattle.std.specs.Char.{is_whitespace}
use Rattle.std.specs.List.{filter_map, list_all, list_any}
use Rattle.snippet_parts.specs.declared.entries.LineAnnotation.{LineAnnotation}
use Rattle.snippet_parts.specs.declared.entries.LineAnnotationType.{LineAnnotationType}
use Rattle.snippet_parts.specs.declared.entries.LineAnnotationType.TheVariants.{MultilineStart, MultilineEnd}
use Rattle.snippet_parts.specs.Entries.{is_bar}
use Rattle.snippet_style.specs.Glyphs.{strokes_of, underline_role}
use Rattle.snippet_style.specs.Cell.{Cell, SPACE, unlinked_cell, written}
use Rattle.snippet_grid.specs.Layout.{Layout, bar_cell}
use Rattle.snippet_strokes.specs.declared.bars.OpenBar.{OpenBar}
use Rattle.snippet_model.specs.AnnotationKind.{is_primary}
use Rattle.snippet_labels.specs.Positions.{is_start_part}
use Rattle.snippet_style.specs.declared.glyphs.Strokes.{Strokes}

-- a bar, under a name that other crates can use
abbrev pub Bar : Type 0
Bar = OpenBar

-- the bar that the start or the end of a span of several lines opens or closes
abbrev pub bar_at : LineAnnotationType → Bool → Option OpenBar
bar_at (MultilineStart depth) primary = Some (record { depth = depth; primary = primary })
bar_at (MultilineEnd depth) primary = Some (record { depth = depth; primary = primary })
bar_at other primary = None

-- the bars of the starts and ends on a line
abbrev pub ends_of_bars : List LineAnnotation → List OpenBar
ends_of_bars es = filter_map (λ e. bar_at e.annotation_type (is_primary e.kind)) es

-- the bars whose depth none of the others has
abbrev pub bars_apart : List OpenBar → List OpenBar → List OpenBar
bars_apart bars others = filter (λ bar. not (list_any (λ other. other.depth == bar.depth) others)) bars

-- the bars that are open below a line, where those of one list are open above it, and its starts and ends have those of the
-- other: those above that no start or end closes, and those that its starts and ends open
abbrev pub open_past : List OpenBar → List OpenBar → List OpenBar
open_past open_bars ends = bars_apart open_bars ends ++ bars_apart ends open_bars

-- a row with a glyph for each of some bars in the cell of its depth, this one of its strokes, in their role: of two bars of one depth the
-- later one stands
abbrev pub with_bars : Layout → (Strokes → ℕ) → List OpenBar → List Cell → List Cell
with_bars layout glyph bars row =
    fold (λ cells bar. written SPACE cells (bar_cell layout bar.depth)
    (unlinked_cell (underline_role bar.primary) (glyph (strokes_of layout.decor bar.primary)) ∷ [])) row bars

-- whether an entry of this line is drawn by bars alone: it is a bar, or a start with nothing but whitespace before it
abbrev pub is_beside : List ℕ → LineAnnotation → Bool
is_beside text e =
    is_bar e.annotation_type || is_start_part e.annotation_type && list_all is_whitespace (take e.start.display text)
