-- A line that is taken of what a reader holds.
use Rattle.std.specs.Prelude.{◌≡◌, ℕ, ◌<◌, ◌++◌, Bool, true, false, List, Option, Some, IfSome, drop, length, take}
use Rattle.std.specs.Io.BufRead.{drop_through, take_through}
use Rattle.std.specs.Io.KnownBytes.{IsAtEnd}

-- a line is taken of what a reader holds: its bytes up to a line feed and with it, or all that there are, and at least one
pub record TakesLine (old new : Option (List ℕ)) (line : List ℕ) : Type 0 where
  pub some : 0 < length line
  pub is : IfSome old (λ bytes. (line ≡ take_through 10 bytes) × (new ≡ Some (drop_through 10 bytes)))

-- whether there is one more
abbrev pub TakesNext : Bool → Option (List ℕ) → Option (List ℕ) → List ℕ → Type 0
TakesNext true old new line = TakesLine old new line
TakesNext false old new line = IsAtEnd old

-- the first line of some bytes ends before this one, with a line feed, whatever comes after them
abbrev pub EndsAt : ℕ → List ℕ → Type 0
EndsAt count bytes = (rest : List ℕ) → (take_through 10 (bytes ++ rest) ≡ take count bytes) × (drop_through 10 (bytes ++ rest) ≡ drop count (bytes ++ rest))
