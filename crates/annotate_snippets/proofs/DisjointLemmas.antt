-- Edits of which no pair is named don't overlap.
use Rattle.annotate_snippets.proofs.Common.{◌≡◌, ℕ, zero, suc, ◌+◌, ◌<◌, Bool, true, false, cond, List, [], ◌∷◌, Option, Some, None, length, get_or, refl}
use Rattle.annotate_snippets.proofs.Common.{arith, position_from, option_map, option_or, Edit, first_overlap, first_overlap_from, overlap, AreDisjoint, no_edit}

-- neither of two that give nothing
neither : {X : Type 0} (a b : Option X) → option_or a b ≡ None → (a ≡ None) × (b ≡ None)
neither None b none = (refl, none)
neither (Some x) b none = cc

-- what gives nothing was nothing
unmapped : {X Y : Type 0} (f : X → Y) (a : Option X) → option_map f a ≡ None → a ≡ None
unmapped f None none = refl
unmapped f (Some x) none = cc

-- where no place is found, each element fails
each_fails : (test : Edit → Bool) (i : ℕ) (es : List Edit) → position_from test i es ≡ None → (k : ℕ) → k < length es → test (get_or es k no_edit) ≡ false
each_fails test i [] none k within = absurd (omega arith)
each_fails test i (e ∷ es) none k within = by_cases (test e) refl none (λ rest j low. each_fails test (i + 1) es rest j low) k within
  where
    by_cases : (t : Bool) → test e ≡ t → cond t (Some i) (position_from test (i + 1) es) ≡ None
        → (position_from test (i + 1) es ≡ None → (j : ℕ) → j < length es → test (get_or es j no_edit) ≡ false) → (k : ℕ) → k < length (e ∷ es)
        → test (get_or (e ∷ es) k no_edit) ≡ false
    by_cases true is none later k within = cc
    by_cases false is none later zero within = is
    by_cases false is none later (suc k) within = later none k (omega arith)

overlap_from-clear : (n : ℕ) (es : List Edit) → first_overlap_from n es ≡ None → AreDisjoint es
overlap_from-clear n [] none m k low high = absurd (omega arith)
overlap_from-clear n (e ∷ es) none zero zero low high = absurd (omega arith)
overlap_from-clear n (e ∷ es) none zero (suc k) low high =
    each_fails (overlap e) (n + 1) es (unmapped (λ k. (n, k)) (position_from (overlap e) (n + 1) es) (neither _ _ none).0) k (omega arith)
overlap_from-clear n (e ∷ es) none (suc m) zero low high = absurd (omega arith)
overlap_from-clear n (e ∷ es) none (suc m) (suc k) low high =
    overlap_from-clear (n + 1) es (neither (option_map (λ k. (n, k)) (position_from (overlap e) (n + 1) es)) (first_overlap_from (n + 1) es) none).1 m k
    (omega arith) (omega arith)

-- edits of which no first overlap is found don't overlap
pub first_overlap-clear : (es : List Edit) → first_overlap es ≡ None → AreDisjoint es
unfolding first_overlap
first_overlap-clear es none = overlap_from-clear 0 es none
