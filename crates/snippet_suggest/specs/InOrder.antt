-- Stretches of a line that stand in it one after the other.
use Rattle.std.specs.Prelude.{ℕ, ◌≤◌, List, [], ◌∷◌}
use Rattle.snippet_splice.specs.declared.stretches.SubstitutionHighlight.{SubstitutionHighlight}

-- these stretches do, from a character on and before the end of the line
abbrev pub AreInOrder : ℕ → ℕ → List SubstitutionHighlight → Type 0
AreInOrder end at [] = at ≤ end
AreInOrder end at (s ∷ ss) = (at ≤ s.start) × (s.start ≤ s.end) × AreInOrder end s.end ss
