-- Texts that stand in a text one after the other.
use Rattle.std.specs.Prelude.{◌≡◌, ℕ, List, [], ◌∷◌, ◌++◌}

-- a text stands in another, and the part after it is this one
pub record StandsBefore (part rest whole : List ℕ) : Type 0 where
  pub before : List ℕ
  pub whole_is : whole ≡ before ++ (part ++ rest)

-- these texts stand in one, one after the other
abbrev pub StandInOrder : List (List ℕ) → List ℕ → Type 0
StandInOrder [] whole = Unit {0}
StandInOrder (part ∷ parts) whole = (rest : List ℕ) × StandsBefore part rest whole × StandInOrder parts rest
