-- The graphic form of a report, as a value: a page, each row of which is made from the report by the rule of its part.
use Rattle.std.specs.Prelude.{ℕ, ◌+◌, ◌-◌, ◌==◌, ◌&&◌, nat_lt, not, List, [], ◌∷◌, ◌++◌, Bool, Option, length, map, if◌then◌else◌}
use Rattle.std.specs.Cow.{cow_str_bytes}
use Rattle.std.specs.List.{enumerate_from, zip}
use Rattle.std.specs.Prelude.{true}
use Rattle.std.specs.List.{slice_get}
use Rattle.snippet_style.specs.Cell.{Cell}
use Rattle.snippet_model.specs.declared.snippet.Annotation.{Annotation}
use Rattle.snippet_model.specs.declared.snippet.Element.{Element}
use Rattle.snippet_model.specs.declared.snippet.Element.TheVariants as element
use Rattle.snippet_model.specs.declared.snippet.Group.{Group}
use Rattle.snippet_model.specs.declared.snippet.Patch.{Patch}
use Rattle.snippet_model.specs.declared.snippet.Snippet.{Snippet}
use Rattle.snippet_text.specs.Normalized.{norm}
use Rattle.snippet_parts.specs.Annotated.{annotated_lines, parts_on}
use Rattle.snippet_parts.specs.Kept.{shown_lines}
use Rattle.snippet_window.specs.Measures.{margin_of}
use Rattle.snippet_window.specs.Window.{chars_at}
use Rattle.snippet_window.specs.declared.margin.Margin.{Margin}
use Rattle.snippet_strokes.specs.Bars.{Bar, ends_of_bars, open_past}
use Rattle.snippet_strokes.specs.Snippet.{gap_row, shown_rows}
use Rattle.snippet_suggest.specs.Given.{first_given}
use Rattle.snippet_suggest.specs.RowOrder.{Offers, Removes, SuggestionRow}
use Rattle.snippet_strokes.specs.SourceRows.{bare_row}
use Rattle.snippet_titles.specs.HeadingRows.{heading_rows}
use Rattle.snippet_titles.specs.declared.style.TitleStyle.TheVariants as style
use Rattle.snippet_model.specs.Heading.{heading_of_message}
use Rattle.annotate_snippets.specs.declared.renderer.Renderer.{Renderer}
use Rattle.snippet_grid.specs.Layout.{Layout}
use Rattle.annotate_snippets.specs.declared.renderer.element_context.GroupPosition.{GroupPosition}
use Rattle.annotate_snippets.specs.declared.renderer.element_context.ElementContext.{ElementContext}
use Rattle.annotate_snippets.specs.ElementContext.{closes_with, context_at, drawn_elements, file_of_group, is_end, next_of, position_of_group, suggestion_rows}
use Rattle.annotate_snippets.specs.DrawnReport.{last_row, suggestion_lines}
use Rattle.annotate_snippets.specs.Gutter.{layout_of_group, number_text, numbered_source}
use Rattle.annotate_snippets.specs.Page.{Elision, GroupPage, NamedRow, OfferedLine, Other, RemovedLine, RowName, SourceRow, others}
use Rattle.annotate_snippets.specs.RowsWithoutSource.{cause_head, origin_rows, rows_after_cause, suggestion_head, title_part}

-- ---- lines

-- the margin of a snippet: that of the lines that are kept, with its spans, in the columns that code has
abbrev pub margin_in : Renderer → Layout → Snippet Annotation → Margin
margin_in r layout s = margin_of (r.term_width - layout.code) (annotated_lines s.fold (numbered_source s) s.markers.items)

-- the rows of line k of a snippet, where these bars are open above it: what its entries make of the row that holds its number, the
-- separator and its window, with the roles that entries highlight. The group's window may close with the line
abbrev pub rows_of_line : Renderer → Layout → Bool → Snippet Annotation → List Bar → ℕ → List (List Cell)
rows_of_line r layout closes s open_bars k =
    shown_rows layout (margin_in r layout s) closes open_bars (number_text r s.line_numbering layout.gutter (s.line_start + k))
    (norm (chars_at (cow_str_bytes s.source.text) k)) (parts_on (numbered_source s) s.markers.items k)

-- the rows of line k with their names: the first shows the line
abbrev pub named_line : ℕ → List (List Cell) → List NamedRow
named_line k [] = []
named_line k (row ∷ below) = record { name = SourceRow k; cells = row } ∷ others below

-- what stands between the rows of line j and those of the next of these lines: where lines are left out, one row, with the bars that run
-- past them
abbrev pub gap_below : Renderer → Layout → List Bar → ℕ → List ℕ → List NamedRow
gap_below r layout open_bars j [] = []
gap_below r layout open_bars j (k ∷ ks) =
    if nat_lt (j + 1) k then record { name = Elision; cells = gap_row layout open_bars } ∷ [] else []

-- the rows of these lines of a snippet, above the first of which these bars are open. The group's window may close with the last
abbrev pub rows_of_lines : Renderer → Layout → Bool → Snippet Annotation → List Bar → List ℕ → List NamedRow
rows_of_lines r layout closes s open_bars [] = []
rows_of_lines r layout closes s open_bars (k ∷ ks) =
    let below = open_past open_bars (ends_of_bars (parts_on (numbered_source s) s.markers.items k)) in
    named_line k (rows_of_line r layout (closes && length ks == 0) s open_bars k) ++ (gap_below r layout below k ks ++ rows_of_lines r layout closes s below ks)

-- ---- elements

-- what the row of a suggestion is named by
abbrev pub name_of_row : Snippet Patch → SuggestionRow → RowName
name_of_row s (Offers k) = OfferedLine (first_given s + k)
name_of_row s (Removes i number text) = RemovedLine i
name_of_row s other = Other

-- the rows of an element, where this stands in the row in which the one before it ends. Those of an annotated snippet are those that it
-- begins with, those of the lines that are shown, and what stands below; and those of a suggestion that of its path, where it names that, and
-- those of its lines, named by what they show
abbrev pub element_rows : Renderer → Layout → ElementContext → List Cell → Element → List NamedRow
element_rows r layout around found (element.Message message) =
    others (heading_rows r.hyperlink (style.Message (record { layout = layout; followed = not (is_end around.next) })) (heading_of_message message))
element_rows r layout around found (element.Cause s) =
    others (cause_head r layout around s)
    ++ (rows_of_lines r layout (closes_with around) s [] (shown_lines s.fold (cow_str_bytes s.source.text) s.markers.items)
    ++ others (rows_after_cause r layout around))
element_rows r layout around found (element.Suggestion s) =
    others (suggestion_head r layout around s)
    ++ map (λ pair. record { name = name_of_row s pair.0; cells = pair.1 }) (zip (suggestion_rows around s) (suggestion_lines r layout around found s))
element_rows r layout around found (element.Origin origin) = others (origin_rows r layout around origin)
element_rows r layout around found (element.Padding padding) =
    others (bare_row layout.decor layout.gutter (is_end around.next) ∷ [])

-- ---- groups

-- the page of a group that stands at this place: the rows of its title, and those of each element that is drawn, which may begin in the row
-- that the one before it ends with
abbrev pub group_page : Renderer → Layout → GroupPosition → Option (List ℕ) → Group → GroupPage
group_page r layout place file g =
    let es = drawn_elements g in
    let rows : ℕ → Element → List NamedRow =
    λ i e. element_rows r layout (context_at place file es i e) (last_row r layout true (slice_get es (i - 1))) e in
    record { level = g.level; title = title_part r layout place (next_of es) g.title; elements = map (λ pair. rows pair.0 pair.1) (enumerate_from 0 es) }

-- the page of a report
abbrev pub graphic_form : Renderer → List Group → List GroupPage
graphic_form r groups =
    map (λ pair. group_page r (layout_of_group r groups pair.1) (position_of_group (length groups) pair.0) (file_of_group groups pair.1) pair.1)
    (enumerate_from 0 groups)
