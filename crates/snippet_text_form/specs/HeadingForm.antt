-- What a title or a message is in the text form.
use Rattle.std.specs.Prelude.{ℕ, nat_lt, Bool, ◌&&◌, List, [], ◌∷◌, ◌++◌, Option, None, Some, not, chars, codes, length, replicate, if◌then◌else◌}
use Rattle.std.specs.Cow.{cow_str_bytes}
use Rattle.std.specs.List.{flat_map}
use Rattle.std.specs.Option.{option_map}
use Rattle.snippet_model.specs.Heading.{Heading, is_hidden}
use Rattle.snippet_model.specs.Level.{name_of}
use Rattle.snippet_model.specs.declared.level.Level.{Level}
use Rattle.snippet_model.specs.declared.snippet.Id.{Id}
use Rattle.snippet_style.specs.declared.role.ElementStyle.{ElementStyle}
use Rattle.snippet_style.specs.declared.role.ElementStyle.TheVariants as role
use Rattle.snippet_style.specs.declared.role.LevelInner.{LevelInner}
use Rattle.snippet_text.specs.Normalized.{norm}
use Rattle.snippet_text.specs.Width.{width_of}
use Rattle.snippet_titles.specs.HeadingRows as titles
use Rattle.snippet_titles.specs.HeadingRows.{address_of, heading_lines}
use Rattle.snippet_titles.specs.declared.style.HeadingRoles.{HeadingRoles}
use Rattle.snippet_titles.specs.declared.style.TitleStyle.TheVariants as style
use Rattle.snippet_text_form.specs.Form.{FormPiece, Break, Styled, bare, styled}
use Rattle.snippet_text_form.specs.declared.heading.HeadingKind.{HeadingKind}
use Rattle.snippet_text_form.specs.declared.heading.HeadingKind.TheVariants.{Title, Message}

-- the roles of its parts: those of the graphic form
abbrev pub text_roles_of : HeadingKind → LevelInner → Bool → HeadingRoles
text_roles_of Title level trusted = titles.roles_of style.Title level trusted
text_roles_of Message level trusted =
    record { label = role.MainHeaderMsg; colon = role.NoStyle; text = role.NoStyle }

-- what stands before its name: a space before that of a message
abbrev pub before_name : HeadingKind → List ℕ
before_name Title = []
before_name Message = codes " "

-- the level's name, normalised, which may be hidden
abbrev pub name_form : HeadingKind → ElementStyle → Level → List FormPiece
name_form kind role level =
    if is_hidden level.name then [] else bare (before_name kind) ++ styled role (norm (chars (name_of level)))

-- what stands before an id: a space after a name
abbrev pub before_id : Bool → List ℕ
before_id hidden = if hidden then [] else codes " "

-- an address for a text, which is none where the text is empty
abbrev pub link_for : Option (List ℕ) → List ℕ → Option (List ℕ)
link_for address text = if nat_lt 0 (length text) then address else None

-- a text that links to an address, if there is one
abbrev pub linking : ElementStyle → Option (List ℕ) → List ℕ → List FormPiece
linking role address text = Styled role (link_for address text) text ∷ []

-- an id, where there is one that has a text: normalised, it links to its address where links are on
abbrev pub id_text_form : Bool → ElementStyle → Option (List ℕ) → Option (List ℕ) → List FormPiece
id_text_form hidden role address None = []
id_text_form hidden role address (Some text) =
    bare (before_id hidden) ++ linking role address (norm (chars text))

-- an id in the text form, with what stands before it; nothing where there is none
abbrev pub id_form : Bool → Bool → ElementStyle → Option Id → List FormPiece
id_form hyperlink hidden role None = []
id_form hyperlink hidden role (Some id) =
    id_text_form hidden role (address_of hyperlink id) (option_map cow_str_bytes id.id)

-- the colon before the text: none where the name is hidden and no id is set
abbrev pub colon_form : ElementStyle → Bool → Option Id → List FormPiece
colon_form role hidden id = if hidden && not (titles.is_set id) then [] else styled role (codes ": ")

-- what stands before the text
abbrev pub label_form : Bool → HeadingKind → HeadingRoles → Heading → List FormPiece
label_form hyperlink kind roles heading =
    let hidden = is_hidden heading.level.name in
    name_form kind roles.label heading.level ++ (id_form hyperlink hidden roles.label heading.id ++ colon_form roles.colon hidden heading.id)

-- its characters
abbrev pub id_label : Bool → Option (List ℕ) → List ℕ
id_label hidden None = []
id_label hidden (Some text) = before_id hidden ++ norm (chars text)

abbrev pub label_of_id : Bool → Option Id → List ℕ
label_of_id hidden None = []
label_of_id hidden (Some id) = id_label hidden (option_map cow_str_bytes id.id)

-- the characters of a whole label
abbrev pub heading_label : HeadingKind → Heading → List ℕ
heading_label kind heading =
    let hidden = is_hidden heading.level.name in
    (if hidden then [] else before_name kind ++ norm (chars (name_of heading.level))) ++ (label_of_id hidden heading.id ++ titles.colon_of hidden heading.id)

-- a further line of the text, below the first
abbrev pub further_line : ElementStyle → ℕ → List ℕ → List FormPiece
further_line role width line = bare (10 ∷ replicate width 32) ++ styled role line

-- the lines of the text
abbrev pub lines_form : ElementStyle → ℕ → List (List ℕ) → List FormPiece
lines_form role width [] = []
lines_form role width (line ∷ lines) = styled role line ++ flat_map (further_line role width) lines

-- a title or a message: it begins a line; after its name, its id and a colon stands its text, each further line of it below the
-- first. Each of these is in the style of its role
unfoldable pub heading_form : Bool → HeadingKind → Heading → List FormPiece
heading_form hyperlink kind heading =
    let roles = text_roles_of kind heading.level.kind heading.allows_styling in
    Break ∷ (label_form hyperlink kind roles heading ++ lines_form roles.text (width_of (heading_label kind heading)) (heading_lines heading))
