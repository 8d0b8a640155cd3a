-- What the counts of line feeds in a text's front are.
use Rattle.snippet_lines.proofs.Common.{◌≡◌, ◌≤◌, ◌-◌, ◌==◌, length, take, min, count_by, List, ℕ, Bool, true, false, cond, refl, arith, ◌+◌, sum_by-take-le}
use Rattle.snippet_lines.proofs.Common.{take_min, newline_count, is_lf, last_byte}
use mir.Val.{bool_byte}

-- a `bool` as a number
bool_byte-cond : (b : Bool) → bool_byte b ≡ cond b 1 0
bool_byte-cond true = refl
bool_byte-cond false = refl

-- the line feeds of a front, less one that ends it
pub newline_count-cut : (text bytes : List ℕ) (end cut count : ℕ) (ended : Bool) (one rest : ℕ) → bytes ≡ text → cut ≡ min end (length bytes)
    → count ≡ count_by is_lf (take cut bytes) → ended ≡ (last_byte (take cut bytes) == 10) → one ≡ bool_byte ended → rest ≡ count - one
    → rest ≡ newline_count (take end text)
unfolding newline_count
newline_count-cut text bytes end cut count ended one rest same at counted last is less = grind (arith, take_min, bool_byte-cond)

-- a front of a text holds at most one line feed more than is counted in the text
pub newline_count-take : (text : List ℕ) (end : ℕ) → newline_count (take end text) ≤ newline_count text + 1
unfolding newline_count
newline_count-take text end = grind (arith, sum_by-take-le)
