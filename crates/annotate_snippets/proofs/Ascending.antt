-- Numbers that ascend, told by those that stand side by side.
use Rattle.annotate_snippets.proofs.Common.{ℕ, zero, suc, ◌<◌, List, [], ◌∷◌, get_or, length, arith, Ascends}

-- each number is greater than the one before it
abbrev pub IsAscending : List ℕ → Type 0
IsAscending [] = Unit {0}
IsAscending (j ∷ []) = Unit {0}
IsAscending (j ∷ k ∷ ks) = (j < k) × IsAscending (k ∷ ks)

-- so it is where each is below those after it
pub ascending : (ks : List ℕ) → Ascends ks → IsAscending ks
ascending [] ascends = tt
ascending (j ∷ []) ascends = tt
ascending (j ∷ k ∷ ks) ascends = (
  ascends 0 1 0 (omega arith) (omega arith),
  ascending (k ∷ ks) (λ i l d less within. ascends (suc i) (suc l) d (omega (arith, less)) (omega (arith, within))),
)

-- and then each is
pub ascends : (ks : List ℕ) → IsAscending ks → Ascends ks
ascends [] ascending i j d less within = absurd (omega (arith, within))
ascends (k ∷ ks) ascending i zero d less within = absurd (omega (arith, less))
ascends (k ∷ ks) ascending zero (suc j) d less within = first_below k ks ascending j d (omega (arith, within))
  where
    first_below : (k : ℕ) (ks : List ℕ) → IsAscending (k ∷ ks) → (j d : ℕ) → j < length ks → k < get_or ks j d
    first_below k [] ascending j d within = absurd (omega (arith, within))
    first_below k (m ∷ ks) ascending zero d within = ascending.0
    first_below k (m ∷ ks) ascending (suc j) d within = omega (arith, ascending.0, first_below m ks ascending.1 j d (omega (arith, within)))
ascends (k ∷ ks) ascending (suc i) (suc j) d less within = ascends ks (later k ks ascending) i j d (omega (arith, less)) (omega (arith, within))
  where
    later : (k : ℕ) (ks : List ℕ) → IsAscending (k ∷ ks) → IsAscending ks
    later k [] ascending = tt
    later k (m ∷ ks) ascending = ascending.1
