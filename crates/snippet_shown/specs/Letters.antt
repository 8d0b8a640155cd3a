-- The characters of a text, and which of them take no room: codes of a trusted text, and carriage returns.
use Rattle.std.specs.Prelude.{ℕ, ◌==◌, ◌&&◌, ◌||◌, nat_le, not, Bool, false, List, [], ◌∷◌, if◌then◌else◌}
use Rattle.snippet_text.specs.Width.{char_width}
use Rattle.snippet_shown.specs.declared.wrap.code.Place.{Place}
use Rattle.snippet_shown.specs.declared.wrap.code.Place.TheVariants.{Untrusted, Outside, Escape, Bracket, Command, CommandEscape}

-- a character of a text, and whether it belongs to a code
pub record Letter : Type 0 where
  pub char : ℕ
  pub code : Bool

-- where the first character of a text stands, by whether the text is trusted
abbrev pub first_place : Bool → Place
first_place trusted = if trusted then Outside else Untrusted

-- where the character stands after one outside codes, after one that follows the ESC of a code, after one in an ESC [, and after one in an
-- ESC ] and one that follows an ESC there: an ESC begins a code. One that ESC [ begins ends with a character from @ to ~, one that ESC ]
-- begins with BEL or ESC \, any other with its second character, and each at the end of its line
abbrev pub after_outside : ℕ → Place
after_outside c = if c == 27 then Escape else Outside

abbrev pub after_escape : ℕ → Place
after_escape c = if c == 91 then Bracket else if c == 93 then Command else after_outside c

abbrev pub after_bracket : ℕ → Place
after_bracket c = if (c == 10) || nat_le 64 c && nat_le c 126 then Outside else Bracket

abbrev pub after_command : ℕ → Place
after_command c = if (c == 10) || (c == 7) then Outside else if c == 27 then CommandEscape else Command

abbrev pub after_command_escape : ℕ → Place
after_command_escape c = if c == 92 then Outside else after_command c

-- where the character after this one stands
abbrev pub place_after : Place → ℕ → Place
place_after Untrusted c = Untrusted
place_after Outside c = after_outside c
place_after Escape c = after_escape c
place_after Bracket c = after_bracket c
place_after Command c = after_command c
place_after CommandEscape c = after_command_escape c

-- whether a character that stands there belongs to a code. So does each carriage return of a trusted text, since it takes no room
abbrev pub is_code : Place → ℕ → Bool
is_code Untrusted c = false
is_code Outside c = (c == 27) || (c == 13)
is_code other c = not (c == 10)

abbrev pub letter : Place → ℕ → Letter
letter place c = record { char = c; code = is_code place c }

-- the characters of a text that begins there
abbrev pub letters : Place → List ℕ → List Letter
letters place [] = []
letters place (c ∷ cs) = letter place c ∷ letters (place_after place c) cs

abbrev pub letters_of : Bool → List ℕ → List Letter
letters_of trusted cs = letters (first_place trusted) cs

-- the columns that a character takes
abbrev pub letter_width : Letter → ℕ
letter_width l = if l.code then 0 else char_width l.char

-- a line feed
abbrev pub is_feed : Letter → Bool
is_feed l = l.char == 10

-- a blank, at which a line may be broken: a space or a tab
abbrev pub is_blank : Letter → Bool
is_blank l = not l.code && ((l.char == 32) || (l.char == 9))

-- what may stand before a word: a blank, or a character of a code
abbrev pub is_before_word : Letter → Bool
is_before_word l = l.code || is_blank l
