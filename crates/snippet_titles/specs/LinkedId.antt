-- Which cells of a heading link to the address of its id.
use Rattle.std.specs.Prelude.{◌≡◌, ℕ, ◌+◌, ◌==◌, ◌&&◌, nat_le, nat_lt, Bool, None, List, chars, length, if◌then◌else◌}
use Rattle.snippet_grid.specs.Grid.{cell_at}
use Rattle.snippet_style.specs.Cell.{Cell}
use Rattle.snippet_text.specs.Normalized.{norm}
use Rattle.snippet_model.specs.Heading.{Heading, is_hidden}
use Rattle.snippet_model.specs.Level.{name_of}
use Rattle.snippet_titles.specs.declared.style.TitleStyle.{TitleStyle}
use Rattle.snippet_titles.specs.HeadingRows.{opening_bracket_of, sign_cells}
use Rattle.snippet_titles.specs.Title.{id_address, id_chars}

-- the cell of a heading's first row at which the text of its id begins
abbrev pub id_start : TitleStyle → Heading → ℕ
id_start style heading =
    length (sign_cells style) + length (norm (chars (name_of heading.level))) + length (opening_bracket_of (is_hidden heading.level.name))

-- whether cell c of row i of a heading is one of the text of its id
abbrev pub is_id_cell : TitleStyle → Heading → ℕ → ℕ → Bool
is_id_cell style heading i c =
    i == 0 && nat_le (id_start style heading) c && nat_lt c (id_start style heading + length (id_chars heading.id))

-- in the rows of a heading the text of its id links to the id's address, where links are on and it has one; nothing else links
abbrev pub LinksId : Bool → TitleStyle → Heading → List (List Cell) → Type 0
LinksId hyperlink style heading rows =
    (i c : ℕ) → (cell_at rows i c).link ≡ (if is_id_cell style heading i c then id_address hyperlink heading.id else None)
