-- Line feeds that are shown: which text stands in place of one that holds some.
use Rattle.std.specs.Prelude.{◌≡◌, ℕ, ◌==◌, Bool, true, false, List, Option, None, IsSomeAnd, MatchOption, chars, if◌then◌else◌, map}
use Rattle.std.specs.Cow.{cow_str_bytes}
use Rattle.std.specs.declared.alloc.Global.{Global}
use Rattle.std.specs.declared.borrow.CowStr.{CowStr}

-- what is shown for a character: for a line feed its picture, U+240A, and for any other the character itself
abbrev pub picture_of : ℕ → ℕ
picture_of c = if c == 10 then 0x240A else c

-- the characters that are shown for these
abbrev pub with_line_feeds_shown : List ℕ → List ℕ
with_line_feeds_shown cs = map picture_of cs

-- the second text is the first as it is set: with line feeds shown where that is asked for, and else of the same bytes
abbrev pub IsTextAsSet : Bool → CowStr Global → CowStr Global → Type 0
IsTextAsSet true a b = chars (cow_str_bytes b) ≡ with_line_feeds_shown (chars (cow_str_bytes a))
IsTextAsSet false a b = cow_str_bytes b ≡ cow_str_bytes a

-- the same of texts that may be missing: both are, or both are there
abbrev pub IsOptionAsSet : Bool → Option (CowStr Global) → Option (CowStr Global) → Type 0
IsOptionAsSet feeds a b = MatchOption a (b ≡ None) (λ x. IsSomeAnd b (IsTextAsSet feeds x))
