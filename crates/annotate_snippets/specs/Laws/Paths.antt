-- What the rows that name a path show.
use Rattle.std.specs.Prelude.{◌≡◌, ℕ, ◌+◌, List, Some, drop}
use Rattle.std.specs.Cow.{cow_str_bytes}
use Rattle.snippet_grid.specs.Grid.{row_at}
use Rattle.snippet_style.specs.Cell.{Cell}
use Rattle.snippet_grid.specs.Print.{row_text}
use Rattle.snippet_model.specs.declared.snippet.Snippet.{Snippet}
use Rattle.snippet_model.specs.declared.snippet.Annotation.{Annotation}
use Rattle.snippet_parts.specs.Location.{IsLocation}
use Rattle.snippet_parts.specs.declared.location.Location.{Location}
use Rattle.snippet_titles.specs.Origin.{origin_text}
use Rattle.annotate_snippets.specs.declared.renderer.Renderer.{Renderer}
use Rattle.snippet_grid.specs.Layout.{Layout}
use Rattle.annotate_snippets.specs.declared.renderer.element_context.ElementContext.{ElementContext}
use Rattle.annotate_snippets.specs.Gutter.{numbered_source}
use Rattle.annotate_snippets.specs.Page.{NamedRow, cells_of, others}
use Rattle.annotate_snippets.specs.RowsWithoutSource.{origin_rows, place_found}
use Rattle.snippet_model.specs.declared.snippet.Origin as origin

-- the rows show an origin: they are its rows, cell by cell; so the first of them holds, four cells after the gutter, its path,
-- normalised, and the place that it gives
pub record ShowsOrigin (r : Renderer) (layout : Layout) (around : ElementContext) (o : origin.Origin) (rows : List NamedRow) : Type 0 where
  pub rows_are : rows ≡ others (origin_rows r layout around o)
  pub text : row_text (drop (layout.gutter + 4) (row_at (cells_of rows) 0))
      ≡ origin_text r.anonymized_origin_line_numbers (cow_str_bytes o.path) (record { line = o.line; column = o.char_column })

-- a row names the place of a snippet's spans after its path: the first line on which a span of the kind that names it starts,
-- and the least column there, counted in characters from 1
pub record NamesLocation (r : Renderer) (layout : Layout) (s : Snippet Annotation) (path : List ℕ) (row : List Cell) : Type 0 where
  pub place : Location
  pub is : IsLocation (numbered_source s) s.markers.items place
  pub text : row_text (drop (layout.gutter + 4) row) ≡ origin_text r.anonymized_origin_line_numbers path (place_found (Some place))
