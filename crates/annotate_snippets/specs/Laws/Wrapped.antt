-- What follows where titles and messages are wrapped, for who reads them.
use Rattle.std.specs.Prelude.{◌≡◌, ℕ, ◌≤◌, Bool, true, List, chars}
use Rattle.std.specs.Cow.{cow_str_bytes}
use Rattle.std.specs.List.{AllZip}
use Rattle.std.specs.declared.alloc.Global.{Global}
use Rattle.std.specs.declared.borrow.CowStr.{CowStr}
use Rattle.snippet_model.specs.Heading.{heading_of_message, heading_of_title}
use Rattle.snippet_model.specs.Same.{SameOption}
use Rattle.snippet_model.specs.declared.snippet.Element.{Element}
use Rattle.snippet_model.specs.declared.snippet.Element.TheVariants as element
use Rattle.snippet_model.specs.declared.snippet.Group.{Group}
use Rattle.snippet_model.specs.declared.snippet.Message as message
use Rattle.snippet_model.specs.declared.snippet.Title.{Title}
use Rattle.snippet_titles.specs.ShownHeading.{heading_texts}
use Rattle.snippet_titles.specs.declared.style.MessageContext.{MessageContext}
use Rattle.snippet_titles.specs.declared.style.TitleStyle.TheVariants as style
use Rattle.snippet_shown.specs.AsWrapped.{room_of_message, room_of_title}
use Rattle.snippet_shown.specs.WrapLaws.{AreRowsWithin, IsRewrapped}
use Rattle.snippet_shown.specs.Letters.{letters_of}
use Rattle.snippet_shown.specs.Wrapped.{least_room}
use Rattle.annotate_snippets.specs.Gutter.{gutter_of_report}
use Rattle.annotate_snippets.specs.declared.renderer.Renderer.{Renderer}

-- the second text is shown in place of the first, which is trusted or not, in a room of so many columns
abbrev pub IsTextRewrapped : ℕ → Bool → CowStr Global → CowStr Global → Type 0
IsTextRewrapped room trusted a b =
    IsRewrapped room (letters_of trusted (chars (cow_str_bytes a))) (letters_of trusted (chars (cow_str_bytes b)))

-- a title's text is shown in place of another's, right of where it begins; and no row of it is wider than the terminal, if there is room for
-- each character
abbrev pub IsTitleRewrapped : ℕ → Title → Title → Type 0
IsTitleRewrapped term_width a b =
    IsTextRewrapped (room_of_title term_width b) b.allows_styling a.text b.text
    × (least_room ≤ room_of_title term_width b → AreRowsWithin b.allows_styling term_width (heading_texts style.Title (heading_of_title b)))

-- the same of two messages, beside a gutter of so many cells, wherever the second stands
abbrev pub IsMessageRewrapped : ℕ → ℕ → message.Message → message.Message → Type 0
IsMessageRewrapped term_width gutter a b =
    IsTextRewrapped (room_of_message term_width gutter b) true a.text b.text
    × ((place : MessageContext) → place.layout.gutter ≡ gutter → least_room ≤ room_of_message term_width gutter b
    → AreRowsWithin true term_width (heading_texts (style.Message place) (heading_of_message b)))

-- of two elements: a message is shown in place of a message. Nothing is said of others
abbrev pub IsElementRewrapped : ℕ → ℕ → Element → Element → Type 0
IsElementRewrapped term_width gutter (element.Message a) (element.Message b) = IsMessageRewrapped term_width gutter a b
IsElementRewrapped term_width gutter (element.Message a) b = ⊥
IsElementRewrapped term_width gutter a b = Unit {0}

-- the same of the title and the messages of two groups
abbrev pub IsGroupRewrapped : ℕ → ℕ → Group → Group → Type 0
IsGroupRewrapped term_width gutter a b =
    SameOption (IsTitleRewrapped term_width) a.title b.title × AllZip (IsElementRewrapped term_width gutter) a.elements.items b.elements.items

-- the texts of a report's titles and messages are shown, in the same places, by those of the second, which are wrapped for the terminal: none
-- loses the characters of a word, as IsRewrapped says, and no row of them is wider than the terminal
abbrev pub AreRewrapped : Renderer → List Group → List Group → Type 0
AreRewrapped r groups shown = AllZip (IsGroupRewrapped r.term_width (gutter_of_report r shown)) groups shown
