-- How a suggestion is shown, which rustc's own text of a diagnostic tells.
use Rattle.std.specs.Prelude.{ℕ, eqb, ◌-◌, ◌==◌, ◌&&◌, ◌||◌, Bool, false, List, [], ◌∷◌, Option, Some, None, codes, drop, length}
use Rattle.std.specs.Prelude.{take, if◌then◌else◌}
use Rattle.std.specs.List.{ends_with, slice_split, starts_with}
use Rattle.std.specs.Option.{option_and_then, option_map, option_map_or, option_or}
use Rattle.std.specs.Str.{trim_start}
use Rattle.redraw_read.specs.declared.rendered.Manner.{Manner}
use Rattle.redraw_read.specs.declared.rendered.Manner.TheVariants as manner
use Rattle.redraw_read.specs.declared.rendered.Stand.{Stand}
use Rattle.redraw_read.specs.declared.rendered.Stand.TheVariants as stand

-- what comes after these words at the start of a text, where they stand there
abbrev pub after : List ℕ → List ℕ → Option (List ℕ)
after words text = if starts_with eqb text words then Some (drop (length words) text) else None

-- what comes before these words at the end of a text, where they stand there
abbrev pub before : List ℕ → List ℕ → Option (List ℕ)
before words text = if ends_with eqb text words then Some (take (length text - length words) text) else None

-- what comes after the first place in a text where these words stand
abbrev pub after_first : List ℕ → List ℕ → Option (List ℕ)
after_first words [] = after words []
after_first words (b ∷ bs) = option_or (after words (b ∷ bs)) (after_first words bs)

-- what stands in a line after its first word, and the blanks around that
abbrev pub after_word : List ℕ → Option (List ℕ)
after_word line = option_map trim_start (after_first (codes " ") (trim_start line))

-- whether a line is a row beside an empty gutter, as those of marks and labels are: after blanks it begins with a bar, in ASCII or U+2502
abbrev pub is_beside_gutter : List ℕ → Bool
is_beside_gutter line =
    starts_with eqb (trim_start line) (codes "|") || starts_with eqb (trim_start line) (226 ∷ 148 ∷ 130 ∷ [])

-- what stands in such a row after the first `help: `
abbrev pub label_in : List ℕ → Option (List ℕ)
label_in line = if is_beside_gutter line then after_first (codes "help: ") line else None

-- what stands after the sign of a message and ` help: ` in a line that begins with these: in ASCII `=`, in Unicode `├` or `╰`
abbrev pub message_in : List ℕ → Option (List ℕ)
message_in line =
    option_or (after (codes "= help: ") line)
    (option_or (after (226 ∷ 148 ∷ 156 ∷ codes " help: ") line) (after (226 ∷ 149 ∷ 176 ∷ codes " help: ") line))

-- what stands in a line where the message of a suggestion may: in a title after `help: `, in a message after blanks, its sign and ` help: `,
-- and in a label after the first `help: ` of a row beside an empty gutter; and where a place may: after the first word, an arrow
abbrev pub stands_in : Stand → List ℕ → Option (List ℕ)
stands_in stand.Title line = after (codes "help: ") line
stands_in stand.Message line = message_in (trim_start line)
stands_in stand.Label line = label_in line
stands_in stand.Origin line = after_word line

-- whether the message of a title or a message ends where this follows it: nothing, or what is to be noticed
abbrev pub ends_title : List ℕ → Bool
ends_title rest = (length rest == 0) || starts_with eqb rest (codes " (notice ")

-- whether a byte begins a stroke of marks, in ASCII or among those of U+2500 to U+257F, or is a blank
abbrev pub is_stroke : ℕ → Bool
is_stroke b = (b == 32) || (b == 94) || (b == 45) || (b == 95) || (b == 124) || (b == 226)

-- whether a text begins with a blank and a stroke, or with two blanks
abbrev pub begins_with_stroke : List ℕ → Bool
begins_with_stroke (blank ∷ b ∷ rest) = (blank == 32) && is_stroke b
begins_with_stroke (blank ∷ []) = false
begins_with_stroke [] = false

-- whether the message of a label also ends where this follows it: what is to stand there, or marks that stand right of the label
abbrev pub ends_label : List ℕ → Bool
ends_label rest = starts_with eqb rest (codes ": `") || begins_with_stroke rest

-- whether a message that stands there ends where this follows it
abbrev pub ends : Stand → List ℕ → Bool
ends stand.Label rest = ends_title rest || ends_label rest
ends place rest = ends_title rest

-- whether a text that stands there is that of a message, and not that of one which only begins with it
abbrev pub is_of : Stand → List ℕ → List ℕ → Bool
is_of place message text = option_map_or (ends place) (after message text) false

-- a text, if it is that of a message
abbrev pub text_of : Stand → List ℕ → List ℕ → Option (List ℕ)
text_of place message text = if is_of place message text then Some text else None

-- what a line shows of a message in such a place: from the message on to its end, if the message stands there
abbrev pub shown_in : Stand → List ℕ → List ℕ → Option (List ℕ)
shown_in place message line = option_and_then (text_of place message) (stands_in place line)

-- what the first of some lines shows that shows something
abbrev pub first_shown : Stand → List ℕ → List (List ℕ) → Option (List ℕ)
first_shown place message [] = None
first_shown place message (line ∷ lines) = option_or (shown_in place message line) (first_shown place message lines)

-- how a suggestion is shown, with the text that is shown from its message on
pub data Way : Type 0 where
  Group : (title : List ℕ) → Way
  Message : (said : List ℕ) → Way
  Label : (label : List ℕ) → Way
  Nowhere : Way

-- as a group where it is a title, else as a message, else as a label; else it isn't shown
abbrev pub way_by : Option (List ℕ) → Option (List ℕ) → Option (List ℕ) → Way
way_by (Some title) said label = Group title
way_by None (Some said) label = Message said
way_by None None (Some label) = Label label
way_by None None None = Nowhere

-- how a message is shown in the lines of a text: as a group where it is a title there, else as a message, else as a label; else nowhere
abbrev pub way : List ℕ → List ℕ → Way
way message text =
    let lines = slice_split (λ b. b == 10) text in
    way_by (first_shown stand.Title message lines) (first_shown stand.Message message lines) (first_shown stand.Label message lines)

-- how a manner that was found says that it is shown
abbrev pub way_of : Manner → Way
way_of (manner.Group title) = Group title.now
way_of (manner.Message said) = Message said.now
way_of (manner.Label label) = Label label.now
way_of manner.Nowhere = Nowhere
