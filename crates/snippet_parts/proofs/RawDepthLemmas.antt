-- Places of spans of several lines, and their raw depths.
use Rattle.snippet_parts.proofs.Common.{◌≡◌, ℕ, zero, suc, ◌+◌, ◌<◌, ◌≤◌, true, false, max, fold, List, [], ◌∷◌, map, length, get_or, refl, ap, ◌∙◌, arith}
use Rattle.snippet_parts.proofs.Common.{list_any, eqb-true, eq-eqb, and_from, and_parts, or_left, or_right, cond-true, cond-false, both_ways}
use Rattle.snippet_parts.proofs.Common.{false_from_ne_true, greatest, LongExtent, same_place, places_of, raw_depth, raw_depth_among, greatest_raw_depth}
use Rattle.snippet_parts.proofs.Common.{greatest_depth, raw_depths}

-- ---- places

same_fields : (a b c d a' b' c' d' : ℕ) → a ≡ a' → b ≡ b' → c ≡ c' → d ≡ d'
    → ◌≡◌ {A = LongExtent} (record { from = a; to = b; first = c; last = d }) (record { from = a'; to = b'; first = c'; last = d' })
same_fields a b c d a' b' c' d' e f g h = cc

-- places that the test calls the same are the same
pub same-true : (p q : LongExtent) → same_place p q ≡ true → p ≡ q
same-true p q same = grind (arith, and_parts, same_fields, eqb-true)

-- the test calls a place the same as itself
pub same-refl : (p : LongExtent) → same_place p p ≡ true
same-refl p = grind (arith, and_from, eq-eqb)

-- a place whose span stands again isn't taken here, and another one is
pub places-again : (p : LongExtent) (ps : List LongExtent) → list_any (same_place p) ps ≡ true → places_of (p ∷ ps) ≡ places_of ps
places-again p ps holds = cond-true (list_any (same_place p) ps) (places_of ps) (p ∷ places_of ps) holds

-- a place that doesn't stand again is one more place
pub places-new : (p : LongExtent) (ps : List LongExtent) → list_any (same_place p) ps ≡ false → places_of (p ∷ ps) ≡ p ∷ places_of ps
places-new p ps fails = cond-false (list_any (same_place p) ps) (places_of ps) (p ∷ places_of ps) fails

among-here : (p : LongExtent) (later : List LongExtent) → raw_depth_among (p ∷ later) p ≡ raw_depth p later
among-here p later = cond-true (same_place p p) (raw_depth p later) (raw_depth_among later p) (same-refl p)

among-past : (p q : LongExtent) (later : List LongExtent) → same_place p q ≡ false → raw_depth_among (q ∷ later) p ≡ raw_depth_among later p
among-past p q later fails = cond-false (same_place p q) (raw_depth q later) (raw_depth_among later p) fails

-- a place that stands again has the depth that it has there
pub among_after : (q p : LongExtent) (ps : List LongExtent) → list_any (same_place p) ps ≡ true
    → raw_depth_among (places_of (q ∷ ps)) p ≡ raw_depth_among (places_of ps) p
among_after q p ps again = grind (arith, places-again, places-new, among-past, false_from_ne_true, both_ways, same-true)

-- a place that doesn't stand again has the raw depth that the later places give it
pub among-new : (p : LongExtent) (ps : List LongExtent) → list_any (same_place p) ps ≡ false
    → raw_depth_among (places_of (p ∷ ps)) p ≡ raw_depth p (places_of ps)
among-new p ps fails = ap (λ qs. raw_depth_among qs p) (places-new p ps fails) ∙ among-here p (places_of ps)

-- ---- raw depths

-- the greatest from a number on is the greater of that and the greatest
pub fold-max : (m : ℕ) (ns : List ℕ) → fold max m ns ≡ max m (greatest ns)
fold-max m [] = omega arith
fold-max m (n ∷ ns) = grind (arith, fold-max (max m n) ns, fold-max (max 0 n) ns)

-- the greatest is the first or the greatest of the others
pub greatest-cons : (n : ℕ) (ns : List ℕ) → greatest (n ∷ ns) ≡ max n (greatest ns)
greatest-cons n ns = let e : fold max (max 0 n) ns ≡ max (max 0 n) (greatest ns) = fold-max (max 0 n) ns in omega (arith, e)

-- no place is deeper than the greatest raw depth
pub among-most : (ps : List LongExtent) (p : LongExtent) → raw_depth_among ps p ≤ greatest_raw_depth ps
among-most [] p = omega arith
among-most (q ∷ ps) p = grind (arith, cond-true, cond-false, among-most ps p)

-- the greatest raw depth of places is that of the spans
pub greatest-is : (ps : List LongExtent) → greatest_depth ps ≡ greatest (raw_depths ps)
greatest-is [] = refl
greatest-is (p ∷ ps) = grind (arith, places-again, among-most, greatest-cons, places-new, among-new, greatest-is ps)

-- two functions that agree on each element
map-agree : {X Y : Type 0} (f g : X → Y) (xs : List X) → ((k : ℕ) (d : X) → k < length xs → f (get_or xs k d) ≡ g (get_or xs k d)) → map f xs ≡ map g xs
map-agree f g [] same = refl
map-agree f g (x ∷ xs) same =
    let h : f x ≡ g x = same 0 x (omega arith) in
    let t : map f xs ≡ map g xs = map-agree f g xs (λ k d within. same (suc k) d (omega arith)) in
    cc

-- a place of the list stands in it
pub any-at : (ps : List LongExtent) (k : ℕ) (d : LongExtent) → k < length ps → list_any (same_place (get_or ps k d)) ps ≡ true
any-at [] k d within = absurd (omega arith)
any-at (p ∷ ps) zero d within = or_left (same_place p p) (list_any (same_place p) ps) (same-refl p)
any-at (p ∷ ps) (suc k) d within = or_right (same_place (get_or ps k d) p) (list_any (same_place (get_or ps k d)) ps) (any-at ps k d (omega arith))

-- each is the raw depth of its place among all
pub raw_depths-are : (ps : List LongExtent) → raw_depths ps ≡ map (raw_depth_among (places_of ps)) ps
raw_depths-are [] = refl
raw_depths-are (p ∷ ps) = grind (arith, map-agree, among_after, any-at, raw_depths-are ps)

-- each place has a raw depth
pub length-raw_depths : (ps : List LongExtent) → length (raw_depths ps) ≡ length ps
length-raw_depths [] = refl
length-raw_depths (p ∷ ps) = ap (λ n. suc n) (length-raw_depths ps)

-- ---- how great raw depths are

raw_depth-bound : (p : LongExtent) (qs : List LongExtent) → raw_depth p qs ≤ length qs + 1
raw_depth-bound p [] = omega arith
raw_depth-bound p (q ∷ qs) = grind (arith, cond-true, cond-false, raw_depth-bound p qs, raw_depth-bound q qs)

-- the greatest raw depth is at most the count of places
pub greatest-bound : (ps : List LongExtent) → greatest_raw_depth ps ≤ length ps
greatest-bound [] = omega arith
greatest-bound (p ∷ ps) = omega (arith, raw_depth-bound p ps, greatest-bound ps)

-- no more places are left than there were, once each stands once
pub places-bound : (ps : List LongExtent) → length (places_of ps) ≤ length ps
places-bound [] = omega arith
places-bound (p ∷ ps) = grind (arith, places-again, places-new, places-bound ps)

-- no raw depth is greater than the count of places
pub raw_depths-bound : (ps : List LongExtent) (i d : ℕ) → i < length ps → get_or (raw_depths ps) i d ≤ length ps
raw_depths-bound [] i d within = absurd (omega arith)
raw_depths-bound (p ∷ ps) zero d within = omega (arith, among-most (places_of (p ∷ ps)) p, greatest-bound (places_of (p ∷ ps)), places-bound (p ∷ ps))
raw_depths-bound (p ∷ ps) (suc i) d within = let h : get_or (raw_depths ps) i d ≤ length ps = raw_depths-bound ps i d (omega arith) in omega arith
