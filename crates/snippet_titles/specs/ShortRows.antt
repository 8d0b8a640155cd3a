-- The rows of the short form: those of a title, with a text before its label and one after its first row.
use Rattle.std.specs.Prelude.{ℕ, Bool, List, [], ◌∷◌, ◌++◌}
use Rattle.snippet_style.specs.declared.role.ElementStyle.TheVariants.{LineAndColumn, NoStyle}
use Rattle.snippet_style.specs.Cell.{Cell, text_cells}
use Rattle.snippet_grid.specs.Print.{row_text}
use Rattle.snippet_model.specs.Heading.{Heading}
use Rattle.snippet_titles.specs.declared.style.TitleStyle.TheVariants.{Short}
use Rattle.snippet_titles.specs.HeadingRows.{heading_lines, indent_cells, label_cells, heading_label_text, label_width, lines_below, roles_of}
use Rattle.snippet_titles.specs.HeadingRows.{without_empty_end}
use Rattle.snippet_titles.specs.ShownHeading.{texts_below}

-- some rows, or some texts, of which the first goes on with these cells, or characters
abbrev pub with_end : {X : Type 0} → List X → List (List X) → List (List X)
with_end more [] = more ∷ []
with_end more (row ∷ rows) = (row ++ more) ∷ rows

-- the rows of the short form: a row for each line of a title's text, the first after the text before and the label, each further
-- one below a label of that width; the first goes on with the text after. Those at the end that have no cells aren't there
unfoldable pub short_rows : Bool → List ℕ → List ℕ → Heading → List (List Cell)
short_rows hyperlink before after heading =
    let roles = roles_of Short heading.level.kind heading.allows_styling in
    without_empty_end (with_end (text_cells NoStyle after) (lines_below (text_cells LineAndColumn before ++ label_cells hyperlink roles heading)
    (indent_cells Short (label_width heading)) roles.text (heading_lines heading)))

-- the text of each row
abbrev pub short_texts : List ℕ → List ℕ → Heading → List (List ℕ)
short_texts before after heading =
    with_end after (texts_below (before ++ heading_label_text heading) (row_text (indent_cells Short (label_width heading))) (heading_lines heading))
