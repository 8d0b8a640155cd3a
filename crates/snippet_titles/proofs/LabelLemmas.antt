-- A heading's label: its cells, its characters, and the columns that they take.
use Rattle.snippet_titles.proofs.Common.{common_steps, ◌≡◌, ℕ, ◌+◌, Bool, true, false, Option, Some, List, ◌++◌, replicate, ap, ◌∙◌, arith, cow_str_bytes}
use Rattle.snippet_titles.proofs.Common.{option_map, sum_by-append, Cell, SPACE, text_cells, ElementStyle, LineNumber, norm, char_width, width_of}
use Rattle.snippet_titles.proofs.Common.{width_of-norm, width_of-opening, width_of-closing, Level, Id, Heading, is_hidden, name_of, HeadingRoles}
use Rattle.snippet_titles.proofs.Common.{MessageContext, TitleStyle, Message, address_of, closing_bracket_of, colon_of, id_cells, id_text, label_cells}
use Rattle.snippet_titles.proofs.Common.{linked_to, opening_bracket_of, sign_cells, note_sign_of, separator_cell}
use Rattle.std.proofs.Common.{chars}

-- a level's name, an id and a colon, after other cells, are the label
pub label_is : (done : List Cell) (hyperlink : Bool) (roles : HeadingRoles) (heading : Heading) (level : Level) (hidden : Bool) (name colon : List ℕ)
    (id : Option Id) → hidden ≡ is_hidden level.name → name ≡ norm (chars (name_of level)) → colon ≡ colon_of hidden id → level ≡ heading.level
    → id ≡ heading.id → ((done ++ text_cells roles.label name) ++ id_cells hyperlink hidden roles.label id) ++ text_cells roles.colon colon
    ≡ done ++ label_cells hyperlink roles heading
unfolding label_cells
label_is done hyperlink roles heading level hidden name colon id hides named colons leveled own =
    grind (arith, common_steps, roles.label, roles.colon, heading.id)

-- a bracket, the text of an id and a bracket, after other cells, are the id
pub id_is : (done : List Cell) (hyperlink hidden : Bool) (role : ElementStyle) (id : Id) (text opening shown closing : List ℕ) (address : Option (List ℕ))
    → option_map cow_str_bytes id.id ≡ Some text → opening ≡ opening_bracket_of hidden → shown ≡ norm (chars text)
    → address ≡ address_of hyperlink id → closing ≡ closing_bracket_of hidden
    → ((done ++ text_cells role opening) ++ linked_to address (text_cells role shown)) ++ text_cells role closing
    ≡ done ++ id_cells hyperlink hidden role (Some id)
id_is done hyperlink hidden role id text opening shown closing address given opens is to closes = grind (arith, common_steps)

-- spaces and a sign, after other cells, are what a message begins with
pub sign_is : (done : List Cell) (style : TitleStyle) (place : MessageContext) (count : ℕ) (sign : List ℕ) → style ≡ Message place
    → count ≡ separator_cell place.layout → sign ≡ note_sign_of place.layout.decor place.followed
    → (done ++ replicate count SPACE) ++ text_cells LineNumber sign ≡ done ++ sign_cells style
sign_is done style place count sign is counted signed = grind (arith, common_steps, place.layout)

-- the columns of a label's parts
width_of-three : (a b c : List ℕ) → width_of (a ++ b ++ c) ≡ width_of a + width_of b + width_of c
width_of-three a b c = sum_by-append char_width (a ++ b) c ∙ ap (λ n. n + width_of c) (sum_by-append char_width a b)

-- a label is as wide as its name, its id and its colon
pub label_width-parts : (known level : Level) (hidden : Bool) (owned id set : Option Id) (name shown colon : ℕ) (colons : List ℕ) → level ≡ known
    → hidden ≡ is_hidden known.name → id ≡ owned → set ≡ owned → name ≡ width_of (chars (name_of level)) → shown ≡ width_of (id_text hidden id)
    → colons ≡ colon_of hidden set → colon ≡ width_of colons
    → name + shown + colon ≡ width_of (norm (chars (name_of known)) ++ id_text (is_hidden known.name) owned ++ colon_of (is_hidden known.name) owned)
label_width-parts known level hidden owned id set name shown colon colons leveled hides own is_set named identified spelled measured =
    grind (arith, common_steps, known.name, width_of-norm, width_of-three)

-- an id takes the columns of its text, and in brackets two more
pub width_of-id : (hidden : Bool) (id : Id) (text : List ℕ) → option_map cow_str_bytes id.id ≡ Some text
    → width_of (id_text hidden (Some id)) ≡ width_of (opening_bracket_of hidden) + width_of (chars text) + width_of (closing_bracket_of hidden)
width_of-id hidden id text is = grind (arith, common_steps, width_of-three, width_of-norm)

-- an id without brackets is as wide as its text
pub width_of-bare : (hidden : Bool) (id : Id) (text : List ℕ) (width : ℕ) → hidden ≡ true → option_map cow_str_bytes id.id ≡ Some text
    → width ≡ width_of (chars text) → width ≡ width_of (id_text hidden (Some id))
width_of-bare true id text width hides is measured = omega (arith, width_of-id true id text is, measured)
width_of-bare false id text width hides is measured = cc

-- an id in brackets is two columns wider than its text
pub width_of-bracketed : (hidden : Bool) (id : Id) (text : List ℕ) (width : ℕ) → hidden ≡ false → option_map cow_str_bytes id.id ≡ Some text
    → width ≡ width_of (chars text) → width + 2 ≡ width_of (id_text hidden (Some id))
width_of-bracketed true id text width hides is measured = cc
width_of-bracketed false id text width hides is measured =
    omega (arith, width_of-id false id text is, measured, width_of-opening, width_of-closing)
