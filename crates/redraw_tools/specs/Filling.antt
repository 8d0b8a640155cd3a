-- A text whose placeholders are filled in: `{0}` is the first argument, `{{` is `{`, and `}}` is `}`.
use Rattle.std.specs.Prelude.{ℕ, ◌+◌, ◌-◌, ◌*◌, ◌^◌, ◌==◌, Bool, true, false, List, [], ◌∷◌, ◌++◌, Option, Some, None, chars, encode_utf8, length}
use Rattle.std.specs.Prelude.{if◌then◌else◌, min, nat_lt, option_and_then, option_map, string_bytes, string_len}
use Rattle.std.specs.Char.{is_ascii_digit}
use Rattle.std.specs.List.{slice_get}
use Rattle.serde_json.specs.Data.{Data}
use Rattle.serde_json.specs.Find.{as_str}
use Rattle.redraw_tools.specs.declared.placeholders.Filling.{Filling}
use Rattle.redraw_tools.specs.declared.placeholders.Pending.{Pending}
use Rattle.redraw_tools.specs.declared.placeholders.Pending.TheVariants.{Nothing, Open, Number, Close}

-- the bytes that a text on the way has or may still take: what is settled, what may be a part of a placeholder, and the room that is
-- left for arguments. A character that is read adds its own bytes to them at most
abbrev pub weight : Filling → ℕ
weight f = string_len f.text + string_len f.pending + f.room

-- a text on the way: what is settled of it, what may be a part of a placeholder and what that is so far, how many more bytes arguments
-- may have, and whether one had more
pub record Way : Type 0 where
  pub text : List ℕ
  pub pending : List ℕ
  pub state : Pending
  pub room : ℕ
  pub is_cut : Bool

abbrev pub way : Filling → Way
way f = record {
  text = string_bytes f.text;
  pending = string_bytes f.pending;
  state = f.state;
  room = f.room;
  is_cut = f.is_cut;
}

-- what was pending is no placeholder, and stays as it is
abbrev pub settled : Way → Way
settled w = record w { text = w.text ++ w.pending; pending = [] }

-- one more character that stays as it is, one that may be a part of a placeholder, and the brace that two stand for
abbrev pub with_plain : ℕ → Way → Way
with_plain c w = record w { text = w.text ++ encode_utf8 c; state = Nothing }

abbrev pub with_waiting : ℕ → Pending → Way → Way
with_waiting c state w = record w { pending = w.pending ++ encode_utf8 c; state = state }

abbrev pub with_brace : ℕ → Way → Way
with_brace c w = record w { text = w.text ++ encode_utf8 c; pending = []; state = Nothing }

-- one more character before which what is pending is no placeholder; it may begin one itself
abbrev pub with_other : ℕ → Way → Way
with_other c w =
    if c == 123 then with_waiting c Open (settled w)
    else if c == 125 then with_waiting c Close (settled w)
    else with_plain c (settled w)

-- a digit of a placeholder's number, up to which that is this; any other character, where there is none
abbrev pub with_number : Option ℕ → ℕ → Way → Way
with_number None c w = with_other c w
with_number (Some n) c w = with_waiting c (Number n) w

-- an argument in the place of its placeholder, if there is room for it; else the text ends before it
abbrev pub with_text : List ℕ → Way → Way
with_text argument w =
    if nat_lt w.room (length argument)
    then record w { pending = []; state = Nothing; is_cut = true }
    else record w { text = w.text ++ argument; pending = []; state = Nothing; room = w.room - length argument }

-- the same of the placeholder that this character ends, which stays as it is where there is no argument for it
abbrev pub with_argument : Option (List ℕ) → ℕ → Way → Way
with_argument None c w = with_plain c (settled w)
with_argument (Some argument) c w = with_text argument w

-- the number that a digit is
abbrev pub digit_of : ℕ → Option ℕ
digit_of c = if is_ascii_digit c then Some (c - 48) else None

-- a number with one more digit, as far as it fits in 64 bits
abbrev pub next_number : ℕ → ℕ → ℕ
next_number n digit = min (min (n * 10) (2 ^ 64 - 1) + digit) (2 ^ 64 - 1)

-- the argument with this number, if there is one that is a text
abbrev pub argument_at : List Data → ℕ → Option (List ℕ)
argument_at arguments number = option_and_then as_str (slice_get arguments number)

-- one more character after a brace that opens, after that and a number, and after a brace that closes
abbrev pub after_brace : ℕ → Way → Way
after_brace c w = if c == 123 then with_brace c w else with_number (digit_of c) c w

abbrev pub after_number : List Data → ℕ → ℕ → Way → Way
after_number arguments n c w =
    if c == 125 then with_argument (argument_at arguments n) c w else with_number (option_map (next_number n) (digit_of c)) c w

abbrev pub after_close : ℕ → Way → Way
after_close c w = if c == 125 then with_brace c w else with_other c w

-- a text with one more character
abbrev pub with_next : List Data → Pending → ℕ → Way → Way
with_next arguments Nothing c w = with_other c w
with_next arguments Open c w = after_brace c w
with_next arguments (Number n) c w = after_number arguments n c w
with_next arguments Close c w = after_close c w

abbrev pub taken : List Data → Way → ℕ → Way
taken arguments w c = if w.is_cut then w else with_next arguments w.state c w

abbrev pub taken_all : List Data → Way → List ℕ → Way
taken_all arguments w [] = w
taken_all arguments w (c ∷ cs) = taken_all arguments (taken arguments w c) cs

-- a text with these arguments in the place of its placeholders: they have 1 MiB at most
abbrev pub start : Way
start = record { text = []; pending = []; state = Nothing; room = 1048576; is_cut = false }

abbrev pub filled : List Data → List ℕ → List ℕ
filled arguments text = (settled (taken_all arguments start (chars text))).text
