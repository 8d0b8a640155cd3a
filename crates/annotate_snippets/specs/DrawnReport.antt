-- What the rows of elements are drawn in and over: where suggestions stand, and what they find there.
use Rattle.std.specs.Prelude.{Bool, not, if◌then◌else◌, List, [], ◌∷◌, ◌++◌, Option, Some}
use Rattle.snippet_style.specs.Cell.{Cell}
use Rattle.snippet_model.specs.declared.snippet.Snippet.{Snippet}
use Rattle.snippet_model.specs.declared.snippet.Patch.{Patch}
use Rattle.snippet_model.specs.declared.snippet.Element.{Element}
use Rattle.snippet_model.specs.declared.snippet.Element.TheVariants.{Suggestion}
use Rattle.snippet_suggest.specs.declared.SuggestionLayout.{SuggestionLayout}
use Rattle.snippet_suggest.specs.RowOrder.{Ends}
use Rattle.snippet_suggest.specs.Suggested.{body_cells, suggested_cells as row_cells}
use Rattle.snippet_suggest.specs.declared.SuggestionStart.TheVariants as start
use Rattle.snippet_style.specs.Separators.{separator_row}
use Rattle.annotate_snippets.specs.declared.renderer.Renderer.{Renderer}
use Rattle.snippet_grid.specs.Layout.{Layout}
use Rattle.annotate_snippets.specs.declared.renderer.element_context.ElementContext.{ElementContext}
use Rattle.annotate_snippets.specs.ElementContext.{is_end}
use Rattle.annotate_snippets.specs.Gutter.{line_numbers}

-- where the parts of a suggestion's rows stand
abbrev pub suggestion_layout : Renderer → Layout → Snippet Patch → SuggestionLayout
suggestion_layout r layout s =
    record { base = layout; numbers = line_numbers r s.line_numbering }

-- the row that an element ends with, before a further one or not, in which a suggestion after it may begin: a suggestion has one
abbrev pub last_row : Renderer → Layout → Bool → Option Element → List Cell
last_row r layout follows (Some (Suggestion snippet)) = row_cells (suggestion_layout r layout snippet) snippet [] (Ends follows)
last_row r layout follows other = []

-- the rows of a suggestion's lines, over what it finds in the row that it begins with: nothing in a row of its own, below its path a separator
-- row, and in the last row of the suggestion before what that holds. The last of them is the next one's, where that begins in it
abbrev pub suggestion_lines : Renderer → Layout → ElementContext → List Cell → Snippet Patch → List (List Cell)
suggestion_lines r layout around found s =
    let suggested = suggestion_layout r layout s in
    let under : List Cell = elim around.start [ start.Opening ↦ [] | start.Next ↦ found | start.Path ↦ separator_row layout.decor layout.gutter ] in
    body_cells suggested around.start s under
    ++ (if around.shared then [] else row_cells suggested s [] (Ends (not (is_end around.next))) ∷ [])
