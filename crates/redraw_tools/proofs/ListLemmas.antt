-- Lists that are counted, and lists that are changed in place.
use Rattle.std.proofs.Common.{◌≡◌, refl, ℕ, zero, suc, ◌+◌, ◌<◌, List, [], ◌∷◌, ◌++◌, map, take, drop, set, get_or, length, ap, ◌∙◌, arith}
use Rattle.std.specs.List.{range_with_len}

-- one more number
pub range-more : (a n : ℕ) → range_with_len a (n + 1) ≡ range_with_len a n ++ (a + n) ∷ []
range-more a n = ap (range_with_len a) on ∙ last a n (a + n) refl
  where
    on : n + 1 ≡ suc n
    on = omega arith

    last : (a n j : ℕ) → a + n ≡ j → range_with_len a (suc n) ≡ range_with_len a n ++ j ∷ []
    last a zero j is = let here : a ≡ j = omega (arith, is) in ap (λ k. k ∷ []) here
    last a (suc n) j is = ap (λ xs. a ∷ xs) (last (a + 1) n j (omega (arith, is)))

changed-at : {X : Type 0} (f : X → X) (old : List X) (i : ℕ) (d : X) → i < length old → get_or (map f (take i old) ++ drop i old) i d ≡ get_or old i d
changed-at f [] i d within = absurd (omega (arith, within))
changed-at f (x ∷ old) zero d within = refl
changed-at f (x ∷ old) (suc i) d within = changed-at f old i d (omega (arith, within))

changed-step : {X : Type 0} (f : X → X) (old : List X) (i : ℕ) (d : X) → i < length old →
    set (map f (take i old) ++ drop i old) i (f (get_or old i d)) ≡ map f (take (suc i) old) ++ drop (suc i) old
changed-step f [] i d within = absurd (omega (arith, within))
changed-step f (x ∷ old) zero d within = refl
changed-step f (x ∷ old) (suc i) d within = ap (λ xs. f x ∷ xs) (changed-step f old i d (omega (arith, within)))

-- with one more element changed those so far are changed
pub changed-more : {X : Type 0} (f : X → X) (old now : List X) (i : ℕ) (d : X) → now ≡ map f (take i old) ++ drop i old → i < length old →
    set now i (f (get_or now i d)) ≡ map f (take (i + 1) old) ++ drop (i + 1) old
changed-more f old now i d is within =
    let on : suc i ≡ i + 1 = omega arith in
    ap (λ x. set now i (f x)) (ap (λ xs. get_or xs i d) is ∙ changed-at f old i d within)
    ∙ ap (λ xs. set xs i (f (get_or old i d))) is
    ∙ changed-step f old i d within
    ∙ ap (λ n. map f (take n old) ++ drop n old) on
