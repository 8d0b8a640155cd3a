-- The rows of a report that hold nothing of a source: which they are, cell by cell.
use Rattle.std.specs.Prelude.{ℕ, ◌+◌, ◌&&◌, Bool, true, false, not, List, [], ◌∷◌, ◌++◌, Option, None, Some, if◌then◌else◌}
use Rattle.std.specs.Cow.{cow_str_bytes}
use Rattle.std.specs.Option.{option_map}
use Rattle.snippet_model.specs.declared.snippet.Annotation.{Annotation}
use Rattle.snippet_model.specs.declared.snippet.Origin.{Origin}
use Rattle.snippet_model.specs.declared.snippet.Patch.{Patch}
use Rattle.snippet_model.specs.declared.snippet.Snippet.{Snippet}
use Rattle.snippet_model.specs.declared.snippet.Title.{Title}
use Rattle.snippet_model.specs.Heading.{heading_of_title}
use Rattle.snippet_style.specs.Cell.{Cell}
use Rattle.snippet_lines.specs.Place.{start_location}
use Rattle.snippet_parts.specs.Annotated.{annotated_lines}
use Rattle.snippet_parts.specs.Location.{primary_place, secondary_place}
use Rattle.snippet_parts.specs.declared.location.Location.{Location}
use Rattle.snippet_splice.specs.ShownText.{first_start}
use Rattle.snippet_suggest.specs.Given.{trimmed_of}
use Rattle.snippet_suggest.specs.declared.SuggestionStart.TheVariants as start
use Rattle.snippet_titles.specs.HeadingRows.{heading_rows}
use Rattle.snippet_titles.specs.Origin.{origin_row, primary_start, snippet_head}
use Rattle.snippet_style.specs.Separators.{closing_row, separator_row}
use Rattle.snippet_titles.specs.declared.origin.FileStart.TheVariants.{Alone, Secondary}
use Rattle.snippet_titles.specs.declared.origin.OriginLayout.{OriginLayout}
use Rattle.snippet_titles.specs.declared.origin.OriginLocation.{OriginLocation}
use Rattle.snippet_titles.specs.declared.style.TitleStyle.TheVariants as style
use Rattle.annotate_snippets.specs.ElementContext.{closes_after, is_before_message, is_end, is_first_of_several}
use Rattle.annotate_snippets.specs.Gutter.{numbered_source}
use Rattle.annotate_snippets.specs.declared.renderer.Renderer.{Renderer}
use Rattle.snippet_grid.specs.Layout.{Layout}
use Rattle.annotate_snippets.specs.declared.renderer.element_context.GroupPosition.{GroupPosition}
use Rattle.annotate_snippets.specs.declared.renderer.element_context.GroupPosition.TheVariants as place
use Rattle.annotate_snippets.specs.declared.renderer.element_context.Next.{Next}
use Rattle.annotate_snippets.specs.declared.renderer.element_context.ElementContext.{ElementContext}

-- what stands below a title: a separator row before a message; and a closing row where nothing follows in the first of several
-- groups, but not below a trusted title
abbrev pub rows_after_title : Renderer → Layout → GroupPosition → Next → Bool → List (List Cell)
rows_after_title r layout place next trusted =
    if is_before_message next then separator_row layout.decor layout.gutter ∷ []
    else (if is_end next && is_first_of_several place && not trusted then closing_row layout.decor layout.gutter ∷ [] else [])

-- what stands below the lines of an annotated snippet: in the report's first group a separator row before a message, and a closing row
-- where nothing follows in the first of several groups
abbrev pub rows_after_cause : Renderer → Layout → ElementContext → List (List Cell)
rows_after_cause r layout around =
    let first : Bool = elim around.place [ place.Later ↦ false | position ↦ true ] in
    if first && is_before_message around.next then separator_row layout.decor layout.gutter ∷ []
    else (if closes_after around then closing_row layout.decor layout.gutter ∷ [] else [])

-- where the rows of paths stand
abbrev pub origin_layout : Renderer → Layout → OriginLayout
origin_layout r layout =
    record { base = layout; anonymized = r.anonymized_origin_line_numbers }

-- the rows of an origin: that of its path, and a closing row where nothing follows in the first of several groups. What leads to the path says
-- whether it is all that the group shows, or of the group's first element, or a later one, or of another file than the primary one
abbrev pub origin_rows : Renderer → Layout → ElementContext → Origin → List (List Cell)
origin_rows r layout around origin =
    let begin = if around.primary then (if around.first && is_end around.next then Alone else primary_start around.first) else Secondary in
    origin_row (origin_layout r layout) begin (cow_str_bytes origin.path) (record { line = origin.line; column = origin.char_column }) ∷
    (if closes_after around then closing_row layout.decor layout.gutter ∷ [] else [])

-- a place that is found in a source
abbrev pub place_found : Option Location → OriginLocation
place_found None = record { line = None; column = None }
place_found (Some place) = record { line = Some place.line; column = place.column }

-- what an annotated snippet begins with, which names a place by the lines that are kept, and by whether it is primary
abbrev pub cause_head : Renderer → Layout → ElementContext → Snippet Annotation → List (List Cell)
cause_head r layout around s =
    let lines = annotated_lines s.fold (numbered_source s) s.markers.items in
    snippet_head (origin_layout r layout) around.primary around.first (option_map cow_str_bytes s.path)
    (place_found (if around.primary then primary_place lines else secondary_place lines))

-- the row of a suggestion's path, if it has one, with the place at which the first patch starts, trimmed as it is
abbrev pub path_row : Renderer → Layout → Bool → Snippet Patch → Option (List ℕ) → List (List Cell)
path_row r layout first s None = []
path_row r layout first s (Some path) =
    let at = start_location (numbered_source s) (first_start (trimmed_of s)) in
    origin_row (origin_layout r layout) (primary_start first) path (record { line = Some at.line; column = Some (at.char + 1) }) ∷ []

-- what a suggestion begins with: the row of its path, where it begins below that. In the separator row below it its lines may begin, so
-- that one is the first of its own rows
abbrev pub suggestion_head : Renderer → Layout → ElementContext → Snippet Patch → List (List Cell)
suggestion_head r layout around s =
    elim around.start [ start.Path ↦ path_row r layout around.first s (option_map cow_str_bytes s.path) | begin ↦ [] ]

-- the rows of a group's title, and what stands below them, given what follows; none where there is no title
abbrev pub title_part : Renderer → Layout → GroupPosition → Next → Option Title → List (List Cell)
title_part r layout place next None = []
title_part r layout place next (Some title) =
    heading_rows r.hyperlink style.Title (heading_of_title title) ++ rows_after_title r layout place next title.allows_styling
