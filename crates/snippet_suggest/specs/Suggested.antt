-- The rows of a suggestion, cell by cell, as a value of its snippet.
use Rattle.std.specs.Prelude.{ℕ, ◌+◌, ◌-◌, ◌&&◌, List, [], ◌∷◌, chars, length, map, if◌then◌else◌}
use Rattle.std.specs.List.{slice_index_or}
use Rattle.std.specs.Cow.{cow_str_bytes}
use Rattle.std.specs.Str.{bytes_eq}
use Rattle.snippet_model.specs.declared.snippet.Snippet.{Snippet}
use Rattle.snippet_model.specs.declared.snippet.Patch.{Patch}
use Rattle.snippet_style.specs.Cell.{Cell}
use Rattle.snippet_style.specs.declared.role.ElementStyle.TheVariants.{NoStyle, Removal}
use Rattle.snippet_splice.specs.declared.stretches.SubstitutionHighlight.{SubstitutionHighlight}
use Rattle.snippet_splice.specs.Edits.{Edit}
use Rattle.snippet_splice.specs.Spliced.{last_line_reached}
use Rattle.snippet_splice.specs.EditStretches.{new_stretches, replaced_stretches}
use Rattle.snippet_suggest.specs.declared.kind.DisplaySuggestion.{DisplaySuggestion}
use Rattle.snippet_suggest.specs.declared.kind.DisplaySuggestion.TheVariants.{Underline}
use Rattle.snippet_suggest.specs.declared.layout.SuggestionLayout.{SuggestionLayout}
use Rattle.snippet_suggest.specs.declared.layout.SuggestionStart.{SuggestionStart}
use Rattle.snippet_suggest.specs.Cells.{begin_cells, end_cells, gap_cells, left_out_cells, on_last, removed_cells, with_stretches}
use Rattle.snippet_suggest.specs.Given.{edits_of, first_given, given_lines, given_ranges, is_left_out, last_reached, shown_kind, trimmed_of}
use Rattle.snippet_parts.specs.Numbered.{numbered_source}
use Rattle.snippet_suggest.specs.Marks.{with_marks}
use Rattle.snippet_suggest.specs.RowOrder.{Begins, Empty, Ends, Offers, Removes, Skips, SuggestionRow, rows_of_suggestion}
use Rattle.snippet_suggest.specs.SuggestedLines.{is_touched}
use Rattle.snippet_window.specs.Margin.{capped_sum}
use Rattle.snippet_suggest.specs.Cells.{offered_cells}

-- the stretches of line k that is given which are new, and those of line k after the first in the source which are replaced
abbrev pub new_on : Snippet Patch → ℕ → List SubstitutionHighlight
new_on s k = new_stretches s.fold (cow_str_bytes s.source.text) (edits_of s) k

abbrev pub suggested_stretches : Snippet Patch → ℕ → List SubstitutionHighlight
suggested_stretches s k = replaced_stretches s.fold (cow_str_bytes s.source.text) (edits_of s) k

-- the row of a line that is removed, over one that is there or has no cells: where no line is given, all of its text has the role of
-- removal, and else the stretches that are replaced
abbrev pub removed_in : SuggestionLayout → List (List ℕ) → List SubstitutionHighlight → ℕ → List ℕ → List Cell → List Cell
removed_in layout [] replaced number text under = removed_cells layout Removal number text under
removed_in layout (line ∷ lines) replaced number text under =
    with_stretches Removal layout.base.gutter (chars text) replaced (removed_cells layout NoStyle number text under)

-- the edits of which marks stand in the last row: all, where one line is given by several patches or by a part of one
abbrev pub marked_edits : DisplaySuggestion → List Edit → List Edit
marked_edits Underline es = es
marked_edits kind es = []

-- what a row of a suggestion holds, over one that is there or has no cells
unfoldable pub suggested_cells : SuggestionLayout → Snippet Patch → List Cell → SuggestionRow → List Cell
suggested_cells layout s under (Begins start) = begin_cells layout start under
suggested_cells layout s under (Offers k) =
    let lines = given_lines s in
    offered_cells layout (shown_kind s) (length lines) (capped_sum (s.line_start + first_given s) k) (slice_index_or lines k []) (new_on s k)
suggested_cells layout s under Skips = gap_cells layout
suggested_cells layout s under (Removes i number text) =
    removed_in layout (given_lines s) (suggested_stretches s (i - first_given s)) number text under
suggested_cells layout s under Empty = []
suggested_cells layout s under (Ends follows) =
    with_marks layout (numbered_source s) [] (marked_edits (shown_kind s) (trimmed_of s)) (end_cells layout follows)

-- what rows hold one below the other, the first of them over a row that is there or has no cells
abbrev pub cells_over : (List Cell → SuggestionRow → List Cell) → List Cell → List SuggestionRow → List (List Cell)
cells_over f under [] = []
cells_over f under (row ∷ rows) = f under row ∷ map (f []) rows

-- the rows, where a line in place of removed ones isn't shown: then the last of them gets the roles of that line's stretches, and
-- first, where the line is the last that is reached, of those that are replaced there
abbrev pub with_left_out : SuggestionLayout → Snippet Patch → List (List ℕ) → List (List Cell) → List (List Cell)
with_left_out layout s [] rows = rows
with_left_out layout s (line ∷ lines) rows =
    let gone =
    if bytes_eq line (last_reached s) then suggested_stretches s (last_line_reached (cow_str_bytes s.source.text) (edits_of s) - first_given s) else [] in
    if is_left_out (shown_kind s) (line ∷ lines) (last_reached s) && is_touched s.fold (given_ranges s) 0 then on_last
    (left_out_cells layout.base.gutter line gone (new_on s 0)) rows else rows

-- the rows of a suggestion but the last, the first of them over one that is there or has no cells
unfoldable pub body_cells : SuggestionLayout → SuggestionStart → Snippet Patch → List Cell → List (List Cell)
body_cells layout start s under =
    with_left_out layout s (given_lines s) (cells_over (suggested_cells layout s) under (rows_of_suggestion start s))
