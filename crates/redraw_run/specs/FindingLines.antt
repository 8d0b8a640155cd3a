-- Lines that belong to one finding: the first names its place, and the others tell more of it.
use Rattle.std.specs.Prelude.{◌≡◌, ℕ, Bool, true, false, ◌==◌, ◌&&◌, ◌||◌, nat_le, List, [], ◌∷◌, if◌then◌else◌}
use Rattle.std.specs.Char.{is_ascii_whitespace}
use Rattle.redraw_command.specs.Line.{begins_object}

-- whether a byte is a decimal digit
abbrev pub is_digit : ℕ → Bool
is_digit b = nat_le 48 b && nat_le b 57

-- whether a number stands before a colon or an opening bracket: those begin one after it
abbrev pub opens_number : ℕ → Bool
opens_number b = b == 58 || b == 40

-- whether in the rest of a line a digit stands after a colon or an opening bracket, where such a one (is_open) came last or didn't
abbrev pub names_after : Bool → List ℕ → Bool
names_after is_open [] = false
names_after is_open (b ∷ bs) = if b == 10 then false else (is_open && is_digit b) || names_after (opens_number b) bs

-- whether the first line of some bytes may name a line of a file: a digit stands in it after a colon or an opening bracket
abbrev pub names_line : List ℕ → Bool
names_line bytes = names_after false bytes

-- whether a line has nothing but blanks up to after this byte, if it had nothing else (is_start) before it
abbrev pub starts_line : Bool → ℕ → Bool
starts_line is_start b = b == 10 || (is_start && is_ascii_whitespace b)

-- whether some line begins as an object of JSON does, where one has begun with blanks (is_start) or not
abbrev pub holds_after : Bool → List ℕ → Bool
holds_after is_start [] = false
holds_after is_start (b ∷ bs) = (is_start && b == 123) || holds_after (starts_line is_start b) bs

-- some lines may belong to one finding: the first may name a line of a file, and none begins as an object does
pub record AreOfFinding (lines : List ℕ) : Type 0 where
  pub names : names_line lines ≡ true
  pub first : begins_object lines ≡ false
  pub others : holds_after false lines ≡ false
