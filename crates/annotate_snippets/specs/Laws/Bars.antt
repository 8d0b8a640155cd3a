-- The bars of spans of several lines: in which cell each stands, of which kind it is, and beside which rows it stands.
use Rattle.std.specs.Prelude.{◌≡◌, ◌≢◌, ◌⊎◌, ℕ, ◌+◌, ◌-◌, ◌<◌, ◌≤◌, ◌==◌, ◌&&◌, false, true, List, ◌∷◌, ◌++◌, All, Contains, fold}
use Rattle.std.specs.Prelude.{length, if◌then◌else◌}
use Rattle.std.specs.List.{list_any, slice_index_or}
use Rattle.std.specs.Cow.{cow_str_bytes}
use Rattle.snippet_model.specs.AnnotationKind.{is_primary}
use Rattle.snippet_model.specs.declared.snippet.Annotation.{Annotation}
use Rattle.snippet_model.specs.declared.snippet.Snippet.{Snippet}
use Rattle.snippet_style.specs.Cell.{Cell, SPACE, unlinked_cell}
use Rattle.snippet_style.specs.Glyphs.{strokes_of, underline_role}
use Rattle.snippet_grid.specs.Grid.{cell_at}
use Rattle.snippet_grid.specs.Layout.{Layout, bar_cell}
use Rattle.snippet_parts.specs.Annotated.{depth_of, is_long}
use Rattle.snippet_parts.specs.Mark.{touches}
use Rattle.snippet_parts.specs.Marked.{first_line, last_line}
use Rattle.snippet_strokes.specs.Bars.{Bar}
use Rattle.snippet_strokes.specs.EndBars.{BarEnds, IsNoBar}
use Rattle.annotate_snippets.specs.Gutter.{numbered_source}
use Rattle.annotate_snippets.specs.Page.{RowName, SourceRow, Elision, NamedRow, lines_named, rows_below, shows_lines}

-- the bar of a span of several lines: primary where that span is, or another one with its place in the source, since these share a bar
abbrev pub bar_of_span : Snippet Annotation → Annotation → Bar
bar_of_span s a =
    let primary = list_any (λ b. is_primary b.kind && (b.span.start == a.span.start && b.span.end == a.span.end)) s.markers.items in
    record { depth = depth_of (numbered_source s) s.markers.items a; primary = primary }

-- the line beside which a row of this name stands, below some rows: its own; for a row in place of lines the first of these, which is
-- the one after that of the last source row above, or 0 where there is none; and for a row below a line that line
abbrev pub line_beside : List NamedRow → RowName → ℕ
line_beside above (SourceRow k) = k
line_beside above Elision = fold (λ before k. k + 1) 0 (lines_named above)
line_beside above name = fold (λ before k. k + 1) 0 (lines_named above) - 1

-- the cell of a part of a bar that has this glyph, in the role of the bar's strokes
abbrev pub part_of_bar : Bar → ℕ → Cell
part_of_bar bar glyph = unlinked_cell (underline_role bar.primary) glyph

-- the cell of a bar beside a row of this name: dotted beside one in place of lines
abbrev pub bar_beside : Layout → RowName → Bar → Cell
bar_beside layout Elision bar = part_of_bar bar (strokes_of layout.decor bar.primary).elided_bar
bar_beside layout name bar = part_of_bar bar (strokes_of layout.decor bar.primary).bar

-- in the rows of a line the bar begins: in one row below the source row stands its corner, left of the line that leads to the span's first
-- mark, in ASCII a space; or in the source row, below which the line then has none, its top. In each row below that stands the bar, and in
-- the source row, where it isn't that, a space
pub record BarStarts (layout : Layout) (bar : Bar) (rows : List (List Cell)) : Type 0 where
  pub at : ℕ
  pub within : at < length rows
  pub is : cell_at rows at (bar_cell layout bar.depth) ≡ (let strokes = strokes_of layout.decor bar.primary in
      if at == 0 then part_of_bar bar strokes.whole_line else part_of_bar bar strokes.bar_top)
  pub alone : at ≡ 0 → length rows ≡ 1
  pub source : 0 < at → cell_at rows 0 (bar_cell layout bar.depth) ≡ SPACE
  pub beside : (i : ℕ) → at < i → i < length rows → cell_at rows i (bar_cell layout bar.depth) ≡ part_of_bar bar (strokes_of layout.decor bar.primary).bar

-- a row, with those above and below it, has the bar of a span of several lines: between the span's first and last line it stands in its own
-- cell and in its kind, whatever else the row holds. In the rows of the first line it begins, in those of the last it ends
pub record HasBar (layout : Layout) (s : Snippet Annotation) (a : Annotation) (above : List NamedRow) (row : NamedRow) (below : List NamedRow) : Type 0 where
  pub stand : first_line (cow_str_bytes s.source.text) a < line_beside above row.name → line_beside above row.name < last_line (cow_str_bytes s.source.text) a
      → slice_index_or row.cells (bar_cell layout (bar_of_span s a).depth) SPACE ≡ bar_beside layout row.name (bar_of_span s a)
  pub begin : row.name ≡ SourceRow (first_line (cow_str_bytes s.source.text) a) → BarStarts layout (bar_of_span s a) (row.cells ∷ rows_below below)
  pub end : row.name ≡ SourceRow (last_line (cow_str_bytes s.source.text) a) → BarEnds layout (bar_of_span s a) (row.cells ∷ rows_below below)

-- the rows, those of a snippet's lines, have the bars of its spans of several lines. The cell of each is one of those between the separator
-- and the code. Two such spans that share a line, be it the last of one and the first of the other, have cells of their own, unless they
-- have the same place in the source. In each of those cells that no such span has which touches the line a space stands, or in a row
-- below a line a part of a line that leads from another bar to a mark
pub record ShowsBars (layout : Layout) (s : Snippet Annotation) (rows : List NamedRow) : Type 0 where
  pub each : (a : Annotation) → Contains s.markers.items a → is_long (cow_str_bytes s.source.text) a ≡ true
      → (above : List NamedRow) (row : NamedRow) (below : List NamedRow) → rows ≡ above ++ row ∷ below → HasBar layout s a above row below
  pub within : (a : Annotation) → Contains s.markers.items a → is_long (cow_str_bytes s.source.text) a ≡ true
      → (layout.gutter + 3 ≤ bar_cell layout (bar_of_span s a).depth) × (bar_cell layout (bar_of_span s a).depth + 1 < layout.code)
  pub apart : (a b : Annotation) → Contains s.markers.items a → Contains s.markers.items b → is_long (cow_str_bytes s.source.text) a ≡ true
      → is_long (cow_str_bytes s.source.text) b ≡ true → first_line (cow_str_bytes s.source.text) a ≤ last_line (cow_str_bytes s.source.text) b
      → first_line (cow_str_bytes s.source.text) b ≤ last_line (cow_str_bytes s.source.text) a
      → bar_cell layout (bar_of_span s a).depth ≡ bar_cell layout (bar_of_span s b).depth
      → (a.span.start ≡ b.span.start) × (a.span.end ≡ b.span.end)
  pub others : (above : List NamedRow) (row : NamedRow) (below : List NamedRow) → rows ≡ above ++ row ∷ below → (c : ℕ) → layout.gutter + 3 ≤ c
      → c < layout.code → All (λ a. is_long (cow_str_bytes s.source.text) a ≡ true → touches (cow_str_bytes s.source.text) a (line_beside above row.name) ≡ true
      → bar_cell layout (bar_of_span s a).depth ≢ c) s.markers.items → (slice_index_or row.cells c SPACE ≡ SPACE)
      ⊎ ((shows_lines row.name ≡ false) × IsNoBar layout.decor (slice_index_or row.cells c SPACE))
