-- The order that entries are painted in.
use Rattle.std.proofs.lemmas.Grind.{common_steps}
use Rattle.snippet_strokes.proofs.Common.{◌≡◌, ℕ, zero, suc, ◌==◌, ◌&&◌, ◌||◌, nat_lt, not, Bool, true, false, List, [], ◌∷◌, map}
use Rattle.snippet_strokes.proofs.Common.{refl, length, ◌≤◌, All, ◌<◌, ◌++◌, ◌∙◌, ap, sym, subst, arith, inl, inr, nat_cmp, is_lt, reverse, IsStrictWeakOrder}
use Rattle.snippet_strokes.proofs.Common.{IsPermutation, IsSortedBy, IsStableBy, ordering_then, bool_cmp, Reverse, cases_Bool, cond-false, cond-true, nat_tests}
use Rattle.snippet_strokes.proofs.Common.{reverse-append, All-cons, All-nil, All-head, All-tail, All-permutation, IsPermutation-cons, IsPermutation-middle}
use Rattle.snippet_strokes.proofs.Common.{IsPermutation-refl, IsPermutation-sym, IsPermutation-trans, ordered_by, put_in, All-put_in, map-ordered_by}
use Rattle.snippet_strokes.proofs.Common.{sorted-only, LineAnnotation, PlacedEntry, entry_width, is_primary, is_painted_before, painting_order, sorted_same}
use Rattle.snippet_strokes.proofs.Common.{stable_same, rules}
use Rattle.snippet_strokes.proofs.PaintedMarks.{CoversOver, IsPaintingOrder}

-- the key that entries are sorted by
abbrev pub paint_key : PlacedEntry → Reverse ℕ × Bool
paint_key e = (record { 0 = entry_width e.entry }, is_primary e.entry.kind)

CoversOver-refl : (e : LineAnnotation) → CoversOver e e
CoversOver-refl e = record { narrower = omega arith; primary = λ _ h. h }

CoversOver-trans : (a b c : LineAnnotation) → CoversOver a b → CoversOver b c → CoversOver a c
CoversOver-trans a b c first second = search rules

-- the code's order of painting is that of the definition
abbrev pub paint_less : PlacedEntry → PlacedEntry → Bool
paint_less x y =
    is_lt (ordering_then (nat_cmp (paint_key y).0.0 (paint_key x).0.0) (bool_cmp (paint_key x).1 (paint_key y).1))

paint_tells : (m n : ℕ) (x y : Bool) → is_lt (ordering_then (nat_cmp n m) (bool_cmp x y)) ≡ (nat_lt n m || (m == n && (not x && y)))
paint_tells m n true true = grind (arith, nat_tests)
paint_tells m n true false = grind (arith, nat_tests)
paint_tells m n false true = grind (arith, nat_tests)
paint_tells m n false false = grind (arith, nat_tests)

painted_before : PlacedEntry → PlacedEntry → Bool
painted_before x y = is_painted_before x.entry y.entry

paint_one_way : (m n : ℕ) (x y : Bool) → (nat_lt n m || (m == n && (not x && y))) ≡ true → (nat_lt m n || (n == m && (not y && x))) ≡ false
paint_one_way m n true true h = grind (arith, nat_tests)
paint_one_way m n true false h = grind (arith, nat_tests)
paint_one_way m n false true h = grind (arith, nat_tests)
paint_one_way m n false false h = grind (arith, nat_tests)

paint_chain : (m n o : ℕ) (x y z : Bool) → (nat_lt n m || (m == n && (not x && y))) ≡ false → (nat_lt o n || (n == o && (not y && z))) ≡ false
    → (nat_lt o m || (m == o && (not x && z))) ≡ false
paint_chain m n o true y true g h = grind (arith, nat_tests)
paint_chain m n o true y false g h = grind (arith, nat_tests)
paint_chain m n o false true true g h = grind (arith, nat_tests)
paint_chain m n o false true false g h = grind (arith, nat_tests)
paint_chain m n o false false true g h = grind (arith, nat_tests)
paint_chain m n o false false false g h = grind (arith, nat_tests)

paint_order : IsStrictWeakOrder painted_before
unfolding painted_before
paint_order = grind (arith, paint_one_way, paint_chain)

-- entries that are sorted stably by the code's test stand in the order of painting
pub painting_order_of_sort : (given sorted : List PlacedEntry) → IsSortedBy paint_less sorted → IsStableBy paint_less given sorted
    → sorted ≡ painting_order given
unfolding painted_before
painting_order_of_sort given sorted up stable = search (rules, painted_before, paint_tells, sorted-only, paint_order, sorted_same, stable_same)

-- each entry may be painted over all before it
abbrev AllCover : List LineAnnotation → Type 0
AllCover [] = Unit {0}
AllCover (e ∷ es) = All (CoversOver e) es × AllCover es

-- where the test answers yes the second may cover the first, and else the first the second
covers_after : (e f : LineAnnotation) → is_painted_before e f ≡ true → CoversOver e f
covers_after e f is = search rules

covers_before : (e f : LineAnnotation) → is_painted_before e f ≡ false → CoversOver f e
covers_before e f is = search rules

AllCover-put_in : (e : LineAnnotation) (fs : List LineAnnotation) → AllCover fs → AllCover (put_in is_painted_before e fs)
AllCover-put_in e [] up = (All-nil (CoversOver e), tt)
AllCover-put_in e (f ∷ fs) up =
    let here = f ∷ put_in is_painted_before e fs in
    let there = e ∷ f ∷ fs in
    elim (cases_Bool (is_painted_before f e)) [
      | inl over ↦
          subst AllCover (sym (cond-true (is_painted_before f e) here there over))
          (All-put_in is_painted_before (CoversOver f) e fs (covers_after f e over) up.0, AllCover-put_in e fs up.1)
      | inr under ↦ grind (arith, common_steps, cond-false, here, there, All-cons, up.0)
    ]

AllCover-ordered_by : (es : List LineAnnotation) → AllCover (ordered_by is_painted_before es)
AllCover-ordered_by [] = tt
AllCover-ordered_by (e ∷ es) = AllCover-put_in e (ordered_by is_painted_before es) (AllCover-ordered_by es)

IsPaintingOrder-covers : (es : List LineAnnotation) → AllCover es → IsPaintingOrder es
IsPaintingOrder-covers [] up i j d before within = absurd (omega (arith, within))
IsPaintingOrder-covers (e ∷ es) up zero zero d before within = CoversOver-refl e
IsPaintingOrder-covers (e ∷ es) up zero (suc j) d before within = up.0 j d (omega (arith, within))
IsPaintingOrder-covers (e ∷ es) up (suc i) zero d before within = absurd (omega (arith, before))
IsPaintingOrder-covers (e ∷ es) up (suc i) (suc j) d before within = IsPaintingOrder-covers es up.1 i j d (omega (arith, before)) (omega (arith, within))

-- in the order of painting each entry may be painted over all before it
pub IsPaintingOrder-painting_order : (placed : List PlacedEntry) → IsPaintingOrder (map (λ (e : PlacedEntry). e.entry) (painting_order placed))
IsPaintingOrder-painting_order placed =
    let f : PlacedEntry → LineAnnotation = λ e. e.entry in
    subst IsPaintingOrder (sym (map-ordered_by f is_painted_before placed))
    (IsPaintingOrder-covers (ordered_by is_painted_before (map f placed)) (AllCover-ordered_by (map f placed)))

IsPermutation-put_in : {X : Type 0} (before : X → X → Bool) (x : X) (ys : List X) → IsPermutation (x ∷ ys) (put_in before x ys)
IsPermutation-put_in before x [] = IsPermutation-refl (x ∷ [])
IsPermutation-put_in before x (y ∷ ys) =
    let here = y ∷ put_in before x ys in
    let there = x ∷ y ∷ ys in
    elim (cases_Bool (before y x)) [
      | inl over ↦
          subst (IsPermutation there) (sym (cond-true (before y x) here there over))
          (IsPermutation-trans there (y ∷ x ∷ ys) here (IsPermutation-sym (y ∷ x ∷ ys) there (IsPermutation-middle (y ∷ []) x ys))
          (IsPermutation-cons y (x ∷ ys) (put_in before x ys) (IsPermutation-put_in before x ys)))
      | inr under ↦ subst (IsPermutation there) (sym (cond-false (before y x) here there under)) (IsPermutation-refl there)
    ]

pub IsPermutation-ordered_by : {X : Type 0} (before : X → X → Bool) (xs : List X) → IsPermutation xs (ordered_by before xs)
IsPermutation-ordered_by before [] = IsPermutation-refl []
IsPermutation-ordered_by before (x ∷ xs) =
    IsPermutation-trans (x ∷ xs) (x ∷ ordered_by before xs) (put_in before x (ordered_by before xs))
    (IsPermutation-cons x xs (ordered_by before xs) (IsPermutation-ordered_by before xs)) (IsPermutation-put_in before x (ordered_by before xs))

-- it is an order of the same entries
pub IsPermutation-painting_order : (placed : List PlacedEntry) → IsPermutation placed (painting_order placed)
IsPermutation-painting_order placed = IsPermutation-ordered_by (λ e f. is_painted_before e.entry f.entry) placed

-- one alone is in order
pub alone_ordered : (placed : List PlacedEntry) → length placed ≤ 1 → placed ≡ painting_order placed
alone_ordered [] few = refl
alone_ordered (e ∷ []) few = refl
alone_ordered (e ∷ f ∷ es) few = absurd (omega (arith, few))

-- ---- entries that stand the other way round

-- each entry is wider than the one before it, and the first than so many columns
abbrev pub Widens : ℕ → List PlacedEntry → Type 0
Widens width [] = Unit {0}
Widens width (e ∷ es) = (width < entry_width e.entry) × Widens (entry_width e.entry) es

all_wider : (width : ℕ) (es : List PlacedEntry) → Widens width es → All (λ (e : PlacedEntry). width < entry_width e.entry) es
all_wider width [] up = All-nil (λ (e : PlacedEntry). width < entry_width e.entry)
all_wider width (e ∷ es) up = grind (arith, All-cons, all_wider (entry_width e.entry) es up.1)

-- an entry comes after all that are wider
put_last : (e : PlacedEntry) (fs : List PlacedEntry) → All (λ (f : PlacedEntry). entry_width e.entry < entry_width f.entry) fs
    → put_in (λ (x y : PlacedEntry). is_painted_before x.entry y.entry) e fs ≡ fs ++ e ∷ []
put_last e [] wider = refl
put_last e (f ∷ fs) wider =
    grind (arith, All-head, cond-true, All-tail, put_last e fs (All-tail (λ (g : PlacedEntry). entry_width e.entry < entry_width g.entry) f fs wider))

-- so where each is wider than the one before it, the order turned round is that of painting
pub reversed_order : (width : ℕ) (es : List PlacedEntry) → Widens width es → reverse es ≡ painting_order es
reversed_order width [] up = refl
reversed_order width (e ∷ es) up =
    reverse-append (e ∷ []) es ∙ ap (λ gs. gs ++ e ∷ []) (reversed_order (entry_width e.entry) es up.1)
    ∙ sym (put_last e (painting_order es) (All-permutation (λ (f : PlacedEntry). entry_width e.entry < entry_width f.entry) es (painting_order es)
    (IsPermutation-painting_order es) (all_wider (entry_width e.entry) es up.1)))
