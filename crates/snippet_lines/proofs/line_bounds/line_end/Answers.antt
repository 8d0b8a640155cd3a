use Rattle.snippet_lines.proofs.Common.{common_steps}
use Rattle.std.proofs.Common.{◌≡◌, ◌-◌, ◌<◌, ◌≤◌, List, ℕ, length, take, drop, get_or, arith}
use Rattle.std.proofs.lemmas.List.{length-take-le, length-drop}
use Rattle.snippet_lines.proofs.line_bounds.line_end.Goals as goal

-- the bytes from `at` on, read where they stand
read_after : (bytes : List ℕ) (at j : ℕ) → at ≤ j → j < length bytes → get_or (take (length bytes - at) (drop at bytes)) (j - at) 0 ≡ get_or bytes j 0
read_after bytes at j after within = grind (arith, common_steps)

length-after : (bytes : List ℕ) (at : ℕ) → length (take (length bytes - at) (drop at bytes)) ≡ length bytes - at
length-after bytes at =
    length-take-le (length bytes - at) (drop at bytes) (omega (arith, length-drop at bytes))

pub returns-in-Some-clause-none : goal.returns-in-Some-clause-none
returns-in-Some-clause-none c = grind (arith, c.in-Some.ensures.0.high, length-after, c.in-Some.ensures.0.before, read_after)

pub returns-in-None-clause-none : goal.returns-in-None-clause-none
returns-in-None-clause-none c = grind (arith, c.in-None.ensures, length-after, read_after)
