-- What isn't counted: numbers that a wrong program would tell contradict the definitions on small inputs.
use Rattle.std.proofs.Common.{◌≡◌, ℕ, [], ◌∷◌, arith, codes, not}
use Rattle.redraw_report.specs.declared.diagnostic.Region.TheVariants as region
use Rattle.redraw_read.specs.Counted.{capped, is_clamped, is_drawn, ones}
use Rattle.redraw_read.specs.Placed.{AtHand, Lines}

-- bytes 5 to 6 of the text `a` aren't in it, so they are counted
pub place_passed_over : (n : ℕ) → n ≡ capped (ones (is_clamped (Lines (codes "a") 1) (region.Bytes 5 6))) → n ≡ 0 → ⊥
place_passed_over n is none = absurd (omega (arith, is, none))

-- bytes 0 to 1 are, so they aren't
pub place_made_up : (n : ℕ) → n ≡ capped (ones (is_clamped (Lines (codes "a") 1) (region.Bytes 0 1))) → n ≡ 1 → ⊥
place_made_up n is one = absurd (omega (arith, is, one))

-- byte 1 of `é` is inside of it, so a place up to there is counted
pub place_within_a_character : (n : ℕ) → n ≡ capped (ones (is_clamped (Lines (195 ∷ 169 ∷ []) 1) (region.Bytes 0 1))) → n ≡ 0 → ⊥
place_within_a_character n is none = absurd (omega (arith, is, none))

-- an alternative without edits isn't drawn, so it is counted
pub alternative_passed_over : (hand : AtHand) (n : ℕ) → n ≡ capped (ones (not (is_drawn hand []))) → n ≡ 0 → ⊥
alternative_passed_over hand n is none = absurd (omega (arith, is, none))
