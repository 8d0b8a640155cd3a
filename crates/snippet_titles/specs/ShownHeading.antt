-- What the rows of a title or message show.
use Rattle.std.specs.Prelude.{◌≡◌, ℕ, true, List, [], ◌∷◌, ◌++◌, All, Contains, chars, map}
use Rattle.snippet_style.specs.Cell.{Cell}
use Rattle.snippet_grid.specs.Print.{row_text}
use Rattle.snippet_text.specs.Normalized.{is_listed}
use Rattle.snippet_model.specs.Heading.{Heading}
use Rattle.snippet_titles.specs.declared.style.TitleStyle.{TitleStyle}
use Rattle.snippet_titles.specs.HeadingRows.{heading_lines, indent_cells, heading_label_text, label_width, sign_cells}

-- the texts of lines: the first stands after these characters, each further one after those
abbrev pub texts_below : List ℕ → List ℕ → List (List ℕ) → List (List ℕ)
texts_below first further [] = []
texts_below first further (line ∷ lines) = (first ++ line) ∷ map (λ l. further ++ l) lines

-- the text of each row of a heading: its first line after the sign and the label, each further one below its text
abbrev pub heading_texts : TitleStyle → Heading → List (List ℕ)
heading_texts style heading =
    texts_below (row_text (sign_cells style) ++ heading_label_text heading) (row_text (indent_cells style (label_width heading))) (heading_lines heading)

-- each listed character of a row stands in the heading's text, and that is trusted
abbrev pub IsFreeButText : Heading → List Cell → Type 0
IsFreeButText heading row =
    All (λ c. is_listed c ≡ true → (heading.allows_styling ≡ true) × Contains (chars heading.text) c) (row_text row)
