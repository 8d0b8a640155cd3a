-- What begins first at a byte of a source or after it.
use Rattle.std.proofs.Common.{◌≡◌, refl, ℕ, zero, suc, arith, ◌+◌, ◌-◌, ◌≤◌, Option, Some, None, List, length, ap, ◌∙◌}
use Rattle.std.specs.Option.{option_or}
use Rattle.tidy_run.specs.Findings.{Finding}
use Rattle.tidy_run.specs.Rules.{first_from, first_finding}

-- where something begins at the byte, it is that
pub first-here : (begins : List ℕ → ℕ → Option Finding) → (source : List ℕ) → (at : ℕ) → (f : Finding) → at ≤ length source
    → begins source at ≡ Some f → first_from begins source at ≡ Some f
unfolding first_from
first-here begins source at f within some =
    let more : length source + 1 - at ≡ suc (length source - at) = omega (arith, within) in
    ap (λ n. first_finding (begins source) n at) more
    ∙ ap (λ o. option_or o (first_finding (begins source) (length source - at) (at + 1))) some

-- where nothing begins at the byte, it is what begins after it
pub first-next : (begins : List ℕ → ℕ → Option Finding) → (source : List ℕ) → (at : ℕ) → at ≤ length source
    → begins source at ≡ None → first_from begins source at ≡ first_from begins source (at + 1)
unfolding first_from
first-next begins source at within none =
    let more : length source + 1 - at ≡ suc (length source + 1 - (at + 1)) = omega (arith, within) in
    ap (λ n. first_finding (begins source) n at) more
    ∙ ap (λ o. option_or o (first_finding (begins source) (length source + 1 - (at + 1)) (at + 1))) none

first_finding-none : (begins : ℕ → Option Finding) → (n from : ℕ) → ((i : ℕ) → from ≤ i → begins i ≡ None) → first_finding begins n from ≡ None
first_finding-none begins zero from none = refl
first_finding-none begins (suc n) from none =
    ap (λ o. option_or o (first_finding begins n (from + 1))) (none from (omega arith))
    ∙ first_finding-none begins n (from + 1) (λ i after. none i (omega (arith, after)))

-- where nothing begins at the byte or after it, there is none
pub first-none : (begins : List ℕ → ℕ → Option Finding) → (source : List ℕ) → (from : ℕ)
    → ((i : ℕ) → from ≤ i → begins source i ≡ None) → first_from begins source from ≡ None
unfolding first_from
first-none begins source from none = first_finding-none (begins source) (length source + 1 - from) from none
