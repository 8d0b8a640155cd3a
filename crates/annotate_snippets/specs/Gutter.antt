-- The gutter: how wide it is, and what stands in it beside a line.
use Rattle.std.specs.Prelude.{ℕ, ◌+◌, ◌==◌, ◌&&◌, ◌||◌, max, not, Bool, List, length, fold, if◌then◌else◌}
use Rattle.std.specs.List.{flat_map}
use Rattle.std.specs.Fmt.{decimal}
pub use Rattle.snippet_parts.specs.Numbered.{numbered_source}
use Rattle.snippet_model.specs.declared.snippet.Group.{Group}
use Rattle.snippet_model.specs.declared.snippet.Element.{Element}
use Rattle.snippet_model.specs.declared.snippet.Element.TheVariants.{Cause, Suggestion}
use Rattle.snippet_parts.specs.Annotated.{deepest}
use Rattle.snippet_parts.specs.Counted.{counted_number}
use Rattle.snippet_lines.specs.Number.{shown_number}
use Rattle.snippet_lines.specs.declared.number.LineNumbers.{LineNumbers}
use Rattle.snippet_lines.specs.declared.number.LineNumbers.TheVariants.{Shown, Anonymized, Hidden}
use Rattle.snippet_suggest.specs.Given.{counted_line}
use Rattle.snippet_grid.specs.Layout.{Layout}
use Rattle.annotate_snippets.specs.declared.renderer.Renderer.{Renderer}

-- the width that an element wants: an annotated snippet that of the greatest line number counted, and a suggestion that of the number that it
-- counts, or 0 where lines aren't numbered; a suggestion without patches isn't there
abbrev pub width_wanted : Element → ℕ
width_wanted (Cause s) = if s.line_numbering then length (decimal (counted_number s)) else 0
width_wanted (Suggestion s) = if s.line_numbering && not (length s.markers.items == 0) then length (decimal (counted_line s)) else 0
width_wanted other = 0

-- the width of a report's gutter: the greatest that an element wants, or that of `LL` where it stands in place of all numbers
abbrev pub gutter_of_report : Renderer → List Group → ℕ
gutter_of_report r groups =
    if r.anonymized_snippet_line_numbers then 2 else fold (λ gutter e. max (width_wanted e) gutter) 0 (flat_map (λ g. g.elements.items) groups)

-- what the gutter shows beside the lines of a snippet: their numbers, `LL`, or nothing where they aren't numbered
abbrev pub line_numbers : Renderer → Bool → LineNumbers
line_numbers r numbered =
    if numbered then (if r.anonymized_snippet_line_numbers then Anonymized else Shown) else Hidden

-- what stands in the gutter beside a line of this number: the number, `LL` in its place, or spaces
abbrev pub number_text : Renderer → Bool → ℕ → ℕ → List ℕ
number_text r numbered gutter number = shown_number (line_numbers r numbered) gutter number

-- how many bars stand side by side left of an element's code: the greatest depth of its spans of several lines
abbrev pub depth_of_element : Element → ℕ
depth_of_element (Cause snippet) = deepest (numbered_source snippet) snippet.markers.items
depth_of_element other = 0

-- the layout of a group: the gutter is the report's, and the glyphs those of the settings. Its code begins three cells after the gutter, and
-- where bars stand between, as many more as the greatest number of those of an element, and one. Labels are cut where the settings say so, and
-- where texts are wrapped, which end with the terminal
abbrev pub layout_of_group : Renderer → List Group → Group → Layout
layout_of_group r groups g =
    let gutter = gutter_of_report r groups in
    let depth = fold (λ depth e. max (depth_of_element e) depth) 0 g.elements.items in
    record {
      gutter = gutter;
      code = if depth == 0 then gutter + 3 else gutter + 3 + depth + 1;
      decor = r.decor_style;
      label_lines = r.label_lines || r.wrap;
      label_end = if r.wrap then r.term_width else 0;
    }
