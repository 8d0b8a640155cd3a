-- When a report is another with the texts of its titles and messages wrapped: what of the two differs, part by part.
use Rattle.std.specs.Prelude.{◌≡◌, ℕ, ◌+◌, ◌-◌, Bool, true, chars}
use Rattle.std.specs.Cow.{cow_str_bytes}
use Rattle.std.specs.declared.alloc.Global.{Global}
use Rattle.std.specs.declared.borrow.CowStr.{CowStr}
use Rattle.snippet_model.specs.Heading.{heading_of_message, heading_of_title}
use Rattle.snippet_model.specs.declared.snippet.Title.{Title}
use Rattle.snippet_model.specs.declared.snippet.Message.{Message}
use Rattle.snippet_model.specs.declared.snippet.Group.{Group}
use Rattle.snippet_model.specs.declared.snippet.Element.{Element}
use Rattle.snippet_titles.specs.HeadingRows.{label_width}
use Rattle.snippet_shown.specs.Remade.{IsElementMade, IsGroupMade, Stays}
use Rattle.snippet_shown.specs.Wrapped.{wrapped}

-- the columns of a terminal of this width that are right of where a title's text begins, after its label
abbrev pub room_of_title : ℕ → Title → ℕ
room_of_title term_width title = term_width - label_width (heading_of_title title)

-- the room of the text of a message, which begins after a gutter of so many cells and three more: those of the sign, with a space on either
-- side
abbrev pub room_of_message : ℕ → ℕ → Message → ℕ
room_of_message term_width gutter message = term_width - (gutter + 3 + label_width (heading_of_message message))

-- the second text is the first, which is trusted or not, wrapped in a room of so many columns
abbrev pub IsTextWrapped : ℕ → Bool → CowStr Global → CowStr Global → Type 0
IsTextWrapped room trusted a b = chars (cow_str_bytes b) ≡ wrapped room trusted (chars (cow_str_bytes a))

-- titles that differ in their texts alone, the second's wrapped
abbrev pub IsTitleWrapped : ℕ → Title → Title → Type 0
IsTitleWrapped term_width a b =
    (b.level ≡ a.level) × (b.id ≡ a.id) × IsTextWrapped (room_of_title term_width a) a.allows_styling a.text b.text
    × (b.allows_styling ≡ a.allows_styling)

-- messages that differ in their texts alone, the second's wrapped
abbrev pub IsMessageWrapped : ℕ → ℕ → Message → Message → Type 0
IsMessageWrapped term_width gutter a b =
    (b.level ≡ a.level) × IsTextWrapped (room_of_message term_width gutter a) true a.text b.text

-- elements: two messages, the second wrapped, or twice the same element
abbrev pub IsElementWrapped : ℕ → ℕ → Element → Element → Type 0
IsElementWrapped term_width gutter = IsElementMade (IsMessageWrapped term_width gutter) Stays Stays Stays

-- groups of one level, with as many elements, each of the second and its title wrapped
abbrev pub IsGroupWrapped : ℕ → ℕ → Group → Group → Type 0
IsGroupWrapped term_width gutter = IsGroupMade (IsTitleWrapped term_width) (IsElementWrapped term_width gutter)
