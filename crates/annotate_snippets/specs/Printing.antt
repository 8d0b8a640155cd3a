-- What is printed of a group under a sheet, while it is drawn.
use Rattle.std.specs.Prelude.{◌≡◌, ◌<◌, ◌-◌, ℕ, true, false, List, [], ◌++◌, Option, length, map, string_bytes}
use Rattle.std.specs.List.{enumerate_from, slice_get}
use Rattle.snippet_grid.specs.Layout.{Layout}
use Rattle.snippet_grid.specs.Weaving.{WeavesRows}
use Rattle.snippet_model.specs.declared.snippet.Element.{Element}
use Rattle.snippet_style.specs.Cell.{Cell}
use Rattle.snippet_style.specs.declared.role.LevelInner.{LevelInner}
use Rattle.snippet_style.specs.declared.stylesheet.Stylesheet.{Stylesheet}
use Rattle.annotate_snippets.specs.ElementContext.{context_at}
use Rattle.annotate_snippets.specs.DrawnReport.{last_row}
use Rattle.annotate_snippets.specs.GraphicForm.{element_rows}
use Rattle.annotate_snippets.specs.Page.{NamedRow}
use Rattle.annotate_snippets.specs.declared.renderer.Renderer.{Renderer}
use Rattle.annotate_snippets.specs.declared.renderer.element_context.GroupPosition.{GroupPosition}
use Rattle.annotate_snippets.specs.declared.renderer.printing.Printing.{Printing}

-- the rows of each of these elements of a group, which are all that it draws
abbrev pub rows_of_elements : Renderer → Layout → GroupPosition → Option (List ℕ) → List Element → List (List NamedRow)
rows_of_elements r layout place file es =
    map (λ pair. element_rows r layout (context_at place file es pair.0 pair.1) (last_row r layout true (slice_get es (pair.0 - 1))) pair.1)
    (enumerate_from 0 es)

-- these are the rows of a group that is printed in this level after a text: the first of them are printed, all others stand in the grid
pub record IsPrinting (sheet : Stylesheet) (level : LevelInner) (old : List ℕ) (page : Printing) (rows : List (List Cell)) : Type 0 where
  pub printed : List (List Cell)
  pub rows_are : rows ≡ printed ++ page.buffer
  pub unbegun : page.begun ≡ false → printed ≡ []
  pub begun : page.begun ≡ true → 0 < length printed
  pub woven : WeavesRows sheet level printed old (string_bytes page.text)
