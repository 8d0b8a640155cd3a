-- Words of proofs for parts of a report's page.
use Rattle.annotate_snippets.proofs.Common.{ℕ, ◌-◌, true, not, List, [], length, max, fold, if◌then◌else◌, Bool, ◌+◌, ◌&&◌, Some, decimal}
use Rattle.annotate_snippets.proofs.Common.{slice_get, cow_str_bytes, option_map, Layout, Prints, Annotation, Element, Group, heading_of_message, Patch}
use Rattle.annotate_snippets.proofs.Common.{Snippet, start_location, counted_number, first_start, Cell, separator_row, Stylesheet, SuggestionStart, trimmed_of}
use Rattle.annotate_snippets.proofs.Common.{heading_rows, primary_start, FileStart, Alone, Secondary, OriginLocation, TitleStyle, file_of_group, is_end}
use Rattle.annotate_snippets.proofs.Common.{position_of_group, last_row, element_rows, group_page, depth_of_element, layout_of_group, GroupPage, NamedRow}
use Rattle.annotate_snippets.proofs.Common.{group_rows, path_row, Renderer, ElementContext}
use Rattle.snippet_model.specs.declared.snippet.Element.TheVariants as element
use Rattle.snippet_model.specs.declared.snippet.Message.{Message}
use Rattle.snippet_model.specs.declared.snippet.Origin.{Origin}
use Rattle.snippet_parts.specs.Numbered.{numbered_source}
use Rattle.snippet_suggest.specs.declared.SuggestionStart.TheVariants as start
use Rattle.snippet_titles.specs.declared.style.TitleStyle.TheVariants as style

-- the width that an annotated snippet wants
abbrev pub gutter_of : Snippet Annotation → ℕ
gutter_of s = if s.line_numbering then length (decimal (counted_number s)) else 0

-- the greatest number of bars of a group's elements
abbrev pub depth_of_group : Group → ℕ
depth_of_group g = fold (λ depth e. max (depth_of_element e) depth) 0 g.elements.items

-- where a message stands
abbrev pub message_style : Renderer → Layout → ElementContext → TitleStyle
message_style r layout around =
    style.Message (record { layout = layout; followed = not (is_end around.next) })

-- the rows of a message
abbrev pub message_rows : Renderer → Layout → ElementContext → Message → List (List Cell)
message_rows r layout around message =
    heading_rows r.hyperlink (message_style r layout around) (heading_of_message message)

-- what leads to the path of an origin, and the place that it gives
abbrev pub origin_start : ElementContext → FileStart
origin_start around =
    if around.primary then (if around.first && is_end around.next then Alone else primary_start around.first) else Secondary

abbrev pub place_given : Origin → OriginLocation
place_given origin = record { line = origin.line; column = origin.char_column }

-- the place at which the first patch of a snippet starts, trimmed as it is
abbrev pub patch_place : Snippet Patch → OriginLocation
patch_place s =
    let at = start_location (numbered_source s) (first_start (trimmed_of s)) in
    record { line = Some at.line; column = Some (at.char + 1) }

-- what a suggestion begins with that begins so
abbrev pub suggestion_head_at : SuggestionStart → Renderer → Layout → Bool → Snippet Patch → List (List Cell)
suggestion_head_at at r layout first s =
    elim at [ start.Path ↦ path_row r layout first s (option_map cow_str_bytes s.path) | begin ↦ [] ]

-- the rows of an annotated snippet, and those of a suggestion
abbrev pub snippet_rows : Renderer → Layout → ElementContext → Snippet Annotation → List NamedRow
snippet_rows r layout around s = element_rows r layout around [] (element.Cause s)

abbrev pub patch_rows : Renderer → Layout → ElementContext → List Cell → Snippet Patch → List NamedRow
patch_rows r layout around found s = element_rows r layout around found (element.Suggestion s)

-- what a suggestion finds in the row that it begins with
abbrev pub under_of : Renderer → Layout → SuggestionStart → List Cell → List Cell
under_of r layout at found =
    elim at [ start.Opening ↦ [] | start.Next ↦ found | start.Path ↦ separator_row layout.decor layout.gutter ]

-- what element i of a group finds in the row that the one before it ends with, if it begins there
abbrev pub found_at : Renderer → Layout → List Element → ℕ → List Cell
found_at r layout es i = last_row r layout true (slice_get es (i - 1))

-- the page of the report's group of this number, from 0
abbrev pub page_at : Renderer → List Group → ℕ → Group → GroupPage
page_at r groups i g =
    group_page r (layout_of_group r groups g) (position_of_group (length groups) i) (file_of_group groups g) g

-- a page: its groups
abbrev pub Page : Type 0
Page = List GroupPage

-- a part prints the rows of a group in its level under a sheet
abbrev pub PrintsPart : Stylesheet → GroupPage → List ℕ → Type 0
PrintsPart sheet g part = Prints sheet g.level (group_rows g) part
