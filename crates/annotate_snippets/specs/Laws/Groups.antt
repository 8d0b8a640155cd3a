-- What the rows of a group show, and of each of its elements.
use Rattle.std.specs.Prelude.{◌≡◌, ℕ, ◌-◌, true, List, [], ◌∷◌, Option, Some, length}
use Rattle.std.specs.List.{slice_get, slice_index_or}
use Rattle.snippet_style.specs.Cell.{Cell}
use Rattle.snippet_model.specs.declared.snippet.Group.{Group}
use Rattle.snippet_model.specs.declared.snippet.Element.{Element}
use Rattle.snippet_strokes.specs.SourceRows.{bare_row}
use Rattle.annotate_snippets.specs.declared.renderer.Renderer.{Renderer}
use Rattle.snippet_grid.specs.Layout.{Layout}
use Rattle.annotate_snippets.specs.declared.renderer.element_context.GroupPosition.{GroupPosition}
use Rattle.annotate_snippets.specs.declared.renderer.element_context.ElementContext.{ElementContext}
use Rattle.annotate_snippets.specs.ElementContext.{drawn_elements, file_of_group, is_end, next_of, position_of_group, context_at}
use Rattle.annotate_snippets.specs.DrawnReport.{last_row}
use Rattle.annotate_snippets.specs.Gutter.{layout_of_group}
use Rattle.annotate_snippets.specs.Page.{NamedRow, others, GroupPage}
use Rattle.annotate_snippets.specs.Laws.Titles.{ShowsTitlePart, ShowsMessage}
use Rattle.annotate_snippets.specs.Laws.Paths.{ShowsOrigin}
use Rattle.annotate_snippets.specs.Laws.Snippets.{ShowsSnippet}
use Rattle.annotate_snippets.specs.Laws.Suggestions.{ShowsSuggestion}
use Rattle.annotate_snippets.specs.Laws.Free.{IsFreeElement}
use Rattle.snippet_model.specs.declared.snippet.Element.TheVariants as element

-- the rows show an element, where this stands in the row in which the one before it ends
abbrev pub ShowsElement : Renderer → Layout → ElementContext → List Cell → Element → List NamedRow → Type 0
ShowsElement r layout around found (element.Message message) rows = ShowsMessage r layout around message rows
ShowsElement r layout around found (element.Cause snippet) rows = ShowsSnippet r layout around snippet rows
ShowsElement r layout around found (element.Suggestion snippet) rows = ShowsSuggestion r layout around found snippet rows
ShowsElement r layout around found (element.Origin origin) rows = ShowsOrigin r layout around origin rows
ShowsElement r layout around found (element.Padding padding) rows =
    rows ≡ others (bare_row layout.decor layout.gutter (is_end around.next) ∷ [])

-- the parts of a group's page show these elements, which are all that are drawn, one by one, in order
pub record AreElementsShown (r : Renderer) (layout : Layout) (place : GroupPosition) (file : Option (List ℕ)) (es : List Element)
    (parts : List (List NamedRow)) : Type 0 where
  pub count : length parts ≡ length es
  pub each : (i : ℕ) (e : Element) → slice_get es i ≡ Some e
      → ShowsElement r layout (context_at place file es i e) (last_row r layout true (slice_get es (i - 1))) e (slice_index_or parts i [])
  pub free : (i : ℕ) (e : Element) → slice_get es i ≡ Some e → IsFreeElement e (slice_index_or parts i [])

-- the rows show a group: its title, and each element that is drawn, in order. Where a suggestion begins in the row with which
-- the one above it ends, this is its row
pub record ShowsGroup (r : Renderer) (layout : Layout) (place : GroupPosition) (file : Option (List ℕ)) (g : Group) (page : GroupPage) : Type 0 where
  pub title : ShowsTitlePart r layout place (next_of (drawn_elements g)) g.title page.title
  pub elements : AreElementsShown r layout place file (drawn_elements g) page.elements

-- a page shows each group of a report, in order, in the layout that the report gives it
pub record AreGroupsShown (r : Renderer) (groups : List Group) (page : List GroupPage) : Type 0 where
  pub count : length page ≡ length groups
  pub each : (i : ℕ) (g : Group) (part : GroupPage) → slice_get groups i ≡ Some g → slice_get page i ≡ Some part
      → ShowsGroup r (layout_of_group r groups g) (position_of_group (length groups) i) (file_of_group groups g) g part
