-- The rows of a title or message.
use Rattle.std.specs.Prelude.{ℕ, ◌+◌, ◌==◌, Bool, true, false, ◌&&◌, ◌||◌, List, [], ◌∷◌, ◌++◌, Option, None, Some, is_some, not, chars, map, replicate, codes}
use Rattle.std.specs.Prelude.{if◌then◌else◌}
use Rattle.std.specs.List.{slice_split}
use Rattle.std.specs.Option.{option_map}
use Rattle.std.specs.Cow.{cow_str_bytes}
use Rattle.snippet_style.specs.declared.glyphs.DecorStyle.{DecorStyle}
use Rattle.snippet_style.specs.declared.glyphs.DecorStyle.TheVariants.{Unicode}
use Rattle.snippet_style.specs.declared.role.ElementStyle.{ElementStyle}
use Rattle.snippet_style.specs.declared.role.ElementStyle.TheVariants as role
use Rattle.snippet_style.specs.declared.role.LevelInner.{LevelInner}
use Rattle.snippet_style.specs.Glyphs.{note_sign_of, separator_of}
use Rattle.snippet_grid.specs.Grid.{linked}
use Rattle.snippet_style.specs.Cell.{Cell, SPACE, unlinked_cell, text_cells}
use Rattle.snippet_text.specs.Normalized.{norm}
use Rattle.snippet_text.specs.Width.{width_of}
use Rattle.snippet_model.specs.declared.snippet.Id.{Id}
use Rattle.snippet_model.specs.Heading.{Heading, is_hidden}
use Rattle.snippet_model.specs.Level.{name_of}
use Rattle.snippet_titles.specs.declared.style.HeadingRoles.{HeadingRoles}
use Rattle.snippet_titles.specs.declared.style.TitleStyle.{TitleStyle}
use Rattle.snippet_titles.specs.declared.style.TitleStyle.TheVariants.{Title, Short, Message}
use Rattle.snippet_grid.specs.Layout.{separator_cell}

-- the characters of a text as it is drawn: a trusted one as it is, any other normalised
abbrev pub shown_text : Heading → List ℕ
shown_text heading = if heading.allows_styling then chars heading.text else norm (chars heading.text)

-- the address that an id's text links to, where links are on and it has one
abbrev pub address_of : Bool → Id → Option (List ℕ)
address_of hyperlink id = if hyperlink then option_map cow_str_bytes id.url else None

-- cells that link to this address, if there is one
abbrev pub linked_to : Option (List ℕ) → List Cell → List Cell
linked_to None cells = cells
linked_to (Some url) cells = map (linked url) cells

-- the bracket before an id's text, which stands where the level's name isn't hidden
abbrev pub opening_bracket_of : Bool → List ℕ
opening_bracket_of hidden = if hidden then [] else codes "["

-- the bracket after an id's text, which stands where the level's name isn't hidden
abbrev pub closing_bracket_of : Bool → List ℕ
closing_bracket_of hidden = if hidden then [] else codes "]"

-- an id's text: normalised, and linked but for the brackets; no cells where there is no text
abbrev pub bracketed_cells : Bool → ElementStyle → Option (List ℕ) → Option (List ℕ) → List Cell
bracketed_cells hidden role address None = []
bracketed_cells hidden role address (Some text) =
    text_cells role (opening_bracket_of hidden) ++ linked_to address (text_cells role (norm (chars text))) ++ text_cells role (closing_bracket_of hidden)

-- the cells of an id, where there is one
abbrev pub id_cells : Bool → Bool → ElementStyle → Option Id → List Cell
id_cells hyperlink hidden role None = []
id_cells hyperlink hidden role (Some id) =
    bracketed_cells hidden role (address_of hyperlink id) (option_map cow_str_bytes id.id)

-- whether an id is set: it has a text or an address
abbrev pub is_set : Option Id → Bool
is_set None = false
is_set (Some id) = is_some id.id || is_some id.url

-- what stands between the label and the text: nothing where the level's name is hidden and no id is set
abbrev pub colon_of : Bool → Option Id → List ℕ
colon_of hidden id = if hidden && not (is_set id) then [] else codes ": "

-- what stands before a heading's text: the level's name and the id, a colon and a space
unfoldable pub label_cells : Bool → HeadingRoles → Heading → List Cell
label_cells hyperlink roles heading =
    let hidden = is_hidden heading.level.name in
    text_cells roles.label (norm (chars (name_of heading.level))) ++ id_cells hyperlink hidden roles.label heading.id
    ++ text_cells roles.colon (colon_of hidden heading.id)

-- an id's characters between its brackets; none where it has no text
abbrev pub bracketed_text : Bool → Option (List ℕ) → List ℕ
bracketed_text hidden None = []
bracketed_text hidden (Some text) = opening_bracket_of hidden ++ norm (chars text) ++ closing_bracket_of hidden

abbrev pub id_text : Bool → Option Id → List ℕ
id_text hidden None = []
id_text hidden (Some id) = bracketed_text hidden (option_map cow_str_bytes id.id)

-- the characters of a whole label
abbrev pub heading_label_text : Heading → List ℕ
heading_label_text heading =
    let hidden = is_hidden heading.level.name in
    norm (chars (name_of heading.level)) ++ id_text hidden heading.id ++ colon_of hidden heading.id

-- the columns that it takes
abbrev pub label_width : Heading → ℕ
label_width heading = width_of (heading_label_text heading)

-- the roles of a heading's parts. A title's trusted text is unstyled; one that isn't has a role of its own, but not in the short form
abbrev pub roles_of : TitleStyle → LevelInner → Bool → HeadingRoles
roles_of Title kind trusted =
    let plain = role.MainHeaderMsg in
    record { label = role.Level kind; colon = if trusted then role.HeaderMsg else plain; text = if trusted then role.NoStyle else plain }
roles_of Short kind trusted = record { label = role.Level kind; colon = if trusted then role.HeaderMsg else role.NoStyle; text = role.NoStyle }
roles_of (Message place) kind trusted = record { label = role.MainHeaderMsg; colon = role.NoStyle; text = role.NoStyle }

-- what stands below what leads to a message: in Unicode the stroke that leads to the element that follows, if there is one; else a space
abbrev pub note_bar_of : DecorStyle → Bool → Cell
note_bar_of Unicode true = unlinked_cell role.LineNumber (separator_of Unicode)
note_bar_of decor followed = SPACE

-- what a heading's first row begins with: nothing for a title, and for a message the sign after the gutter
abbrev pub sign_cells : TitleStyle → List Cell
sign_cells (Message place) =
    replicate (separator_cell place.layout) SPACE ++ text_cells role.LineNumber (note_sign_of place.layout.decor place.followed)
sign_cells other = []

-- what a further row begins with, below a label of this width: as many spaces, and in a message three more than the gutter is
-- wide, of which one gives its place to the stroke
abbrev pub indent_cells : TitleStyle → ℕ → List Cell
indent_cells (Message place) width =
    replicate (separator_cell place.layout) SPACE ++ note_bar_of place.layout.decor place.followed ∷ replicate (width + 1) SPACE
indent_cells other width = replicate width SPACE

-- the rows of lines: the first line stands after these cells, each further one after those
abbrev pub lines_below : List Cell → List Cell → ElementStyle → List (List ℕ) → List (List Cell)
lines_below first further role [] = []
lines_below first further role (line ∷ lines) =
    (first ++ text_cells role line) ∷ map (λ l. further ++ text_cells role l) lines

-- one row more on top of others; but where it has no cells and there are no others there is no row
abbrev pub on_top : List Cell → List (List Cell) → List (List Cell)
on_top [] [] = []
on_top [] (row ∷ rows) = [] ∷ row ∷ rows
on_top (cell ∷ cells) rows = (cell ∷ cells) ∷ rows

-- rows without those at the end that have no cells
abbrev pub without_empty_end : List (List Cell) → List (List Cell)
without_empty_end [] = []
without_empty_end (row ∷ rows) = on_top row (without_empty_end rows)

-- the lines of a heading: the characters of its text as it is drawn, cut at each line feed
abbrev pub heading_lines : Heading → List (List ℕ)
heading_lines heading = slice_split (λ c. c == 10) (shown_text heading)

-- the rows of a heading, with links or without: a row for each line of its text, the first after the label and each further
-- one below its text; those at the end that have no cells aren't there
unfoldable pub heading_rows : Bool → TitleStyle → Heading → List (List Cell)
heading_rows hyperlink style heading =
    let roles = roles_of style heading.level.kind heading.allows_styling in
    without_empty_end (lines_below (sign_cells style ++ label_cells hyperlink roles heading) (indent_cells style (label_width heading)) roles.text
    (heading_lines heading))
