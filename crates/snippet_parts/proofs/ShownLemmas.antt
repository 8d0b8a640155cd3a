-- The lines that are kept, each with its entries.
use Rattle.snippet_parts.proofs.Common.{◌≡◌, ℕ, zero, suc, ◌+◌, ◌-◌, ◌<◌, ◌≤◌, Bool, true, false, ◌||◌, eqb, List, [], ◌∷◌, ◌++◌, map, length, take, drop}
use Rattle.snippet_parts.proofs.Common.{get_or, inl, inr, refl, sym, ap, ◌∙◌, arith, leb, ltb, Contains, filter, list_any, range_with_len, IsPartitionPoint}
use Rattle.snippet_parts.proofs.Common.{cases_Bool, cases_lt, or_left, or_right, cond-true, cond-false, eq-eqb, ne_eqb, leb-true, leb-false, ltb-true}
use Rattle.snippet_parts.proofs.Common.{ltb-false, map-id, map-range_with_len_more, Annotation, LineAnnotation, is_long, long_entry, long_place, depth_of}
use Rattle.snippet_parts.proofs.Common.{KeptLine, put_in, ordered_by, Source, same_place, share_line}
use Rattle.snippet_parts.proofs.DepthLemmas.{distinct-places}
use Rattle.snippet_parts.proofs.RawDepthLemmas.{same-refl}
use Rattle.snippet_parts.proofs.PartLemmas.{list_any-map}
use Rattle.snippet_parts.proofs.PartWords.{long_places}

-- those that pass among the made elements are made from those whose made ones pass
pub filter-map : {X Y : Type 0} (p : Y → Bool) (f : X → Y) (xs : List X) → filter p (map f xs) ≡ map f (filter (λ x. p (f x)) xs)
filter-map p f [] = refl
filter-map p f (x ∷ xs) = grind (arith, cond-true, cond-false, filter-map p f xs)

-- ---- entries of a line in a sorted list

-- the entries between those above a line and those below it are those of the line
pub on_line : {X : Type 0} (line : X → ℕ) (xs : List X) (n from to m : ℕ) → to ≡ from + m
    → ((j : ℕ) (d : X) → j < from → j < length xs → line (get_or xs j d) < n)
    → ((j : ℕ) (d : X) → from ≤ j → j < length xs → n ≤ line (get_or xs j d)) → ((j : ℕ) (d : X) → j < to → j < length xs → line (get_or xs j d) ≤ n)
    → ((j : ℕ) (d : X) → to ≤ j → j < length xs → n < line (get_or xs j d)) → take m (drop from xs) ≡ filter (λ e. eqb (line e) n) xs
on_line line [] n zero to zero is below from' upto after = refl
on_line line [] n zero to (suc m) is below from' upto after = refl
on_line line [] n (suc from) to zero is below from' upto after = refl
on_line line [] n (suc from) to (suc m) is below from' upto after = refl
on_line line (x ∷ xs) n (suc from) to m is below from' upto after =
    on_line line xs n from (to - 1) m (omega arith) (λ j d a b. below (suc j) d (omega arith) (omega arith)) (λ j d a b.
    from' (suc j) d (omega arith) (omega arith)) (λ j d a b. upto (suc j) d (omega arith) (omega arith)) (λ j d a b.
    after (suc j) d (omega arith) (omega arith))
    ∙ sym (cond-false (eqb (line x) n) (x ∷ filter (λ e. eqb (line e) n) xs) (filter (λ e. eqb (line e) n) xs)
    (ne_eqb (line x) n (λ same. absurd (omega (arith, same, below 0 x (omega arith) (omega arith))))))
on_line line (x ∷ xs) n zero to (suc m) is below from' upto after =
    ap (λ ys. x ∷ ys) (on_line line xs n zero (to - 1) m (omega arith) (λ j d a b. absurd (omega arith)) (λ j d a b.
    from' (suc j) d (omega arith) (omega arith)) (λ j d a b. upto (suc j) d (omega arith) (omega arith)) (λ j d a b.
    after (suc j) d (omega arith) (omega arith)))
    ∙ sym (cond-true (eqb (line x) n) (x ∷ filter (λ e. eqb (line e) n) xs) (filter (λ e. eqb (line e) n) xs)
    (eq-eqb (line x) n (omega (arith, from' 0 x (omega arith) (omega arith), upto 0 x (omega arith) (omega arith)))))
on_line line (x ∷ xs) n zero to zero is below from' upto after =
    on_line line xs n zero zero zero (omega arith) (λ j d a b. absurd (omega arith)) (λ j d a b. from' (suc j) d (omega arith) (omega arith)) (λ j d a b.
    absurd (omega arith)) (λ j d a b. after (suc j) d (omega arith) (omega arith))
    ∙ sym (cond-false (eqb (line x) n) (x ∷ filter (λ e. eqb (line e) n) xs) (filter (λ e. eqb (line e) n) xs)
    (ne_eqb (line x) n (λ same. absurd (omega (arith, same, after 0 x (omega arith) (omega arith))))))

-- ---- a stable sort by lines

-- ---- lines so far

-- a range with one number more ends in that number
pub range-more : (i : ℕ) → range_with_len 0 (i + 1) ≡ range_with_len 0 i ++ i ∷ []
range-more i = sym (map-id (range_with_len 0 (i + 1))) ∙ map-range_with_len_more (λ (k : ℕ). k) 0 i i (omega arith)
    ∙ ap (λ ks. ks ++ i ∷ []) (map-id (range_with_len 0 i))

-- two lines that are seen alike
pub same-kept : (number number' : ℕ) (text text' : List ℕ) (parts parts' : List LineAnnotation) (keep keep' : Bool) → number ≡ number' → text ≡ text'
    → parts ≡ parts' → keep ≡ keep' → ◌≡◌ {A = KeptLine} (record { number = number; text = text; parts = parts; keep = keep })
    (record { number = number'; text = text'; parts = parts'; keep = keep' })
same-kept number number' text text' parts parts' keep keep' a b c d = cc

-- where lines before a stretch are too low and those after it too high, it doesn't end before it starts
pub from-to : {X : Type 0} (line : X → ℕ) (none : X) (xs : List X) (n from to : ℕ) → from ≤ length xs
    → ((j : ℕ) (d : X) → j < from → j < length xs → line (get_or xs j d) < n) → ((j : ℕ) (d : X) → to ≤ j → j < length xs → n < line (get_or xs j d))
    → from ≤ to
from-to line none xs n from to within below after =
    elim (cases_lt to from) [
      | inr le ↦ le
      | inl less ↦ absurd (omega (arith, below to none less (omega arith), after to none (omega arith) (omega arith)))
    ]

-- in a list that is in order by lines, the elements on a line stand between two partition points: that of the lines below it, and that
-- of those up to it
pub on_line-partitioned : {X : Type 0} (line : X → ℕ) (none : X) (xs : List X) (n from to : ℕ) → from ≤ length xs
    → IsPartitionPoint (λ e. ltb (line e) n ≡ true) (λ e. ltb (line e) n ≡ false) xs from
    → IsPartitionPoint (λ e. leb (line e) n ≡ true) (λ e. leb (line e) n ≡ false) xs to
    → (from ≤ to) × (take (to - from) (drop from xs) ≡ filter (λ e. eqb (line e) n) xs)
on_line-partitioned {X} line none xs n from to within below upto =
    let low : (j : ℕ) (d : X) → j < from → j < length xs → line (get_or xs j d) < n = λ j d a b.
    ltb-true (line (get_or xs j d)) n (below.0 j d (omega arith) a) in
    let high : (j : ℕ) (d : X) → to ≤ j → j < length xs → n < line (get_or xs j d) = λ j d a b.
    leb-false (line (get_or xs j d)) n (upto.1 j d a b) in
    let ordered : from ≤ to = from-to line none xs n from to within low high in (
      ordered,
      on_line line xs n from to (to - from) (omega (arith, ordered)) low (λ j d a b. ltb-false (line (get_or xs j d)) n (below.1 j d a b))
          (λ j d a b. leb-true (line (get_or xs j d)) n (upto.0 j d (omega arith) a)) high,
    )

-- ---- depths of annotations

any-put : {X : Type 0} (before : X → X → Bool) (q : X → Bool) (x : X) (ys : List X) → list_any q (put_in before x ys) ≡ (q x || list_any q ys)
any-put before q x [] = refl
any-put before q x (y ∷ ys) = grind (arith, cond-true, cond-false, any-put before q x ys)

any-order : {X : Type 0} (before : X → X → Bool) (q : X → Bool) (xs : List X) → list_any q (ordered_by before xs) ≡ list_any q xs
any-order before q [] = refl
any-order before q (x ∷ xs) = any-put before q x (ordered_by before xs) ∙ ap (λ b. q x || b) (any-order before q xs)

any-filter : {X : Type 0} (q p : X → Bool) (xs : List X) (k : ℕ) (d : X) → k < length xs → p (get_or xs k d) ≡ true → q (get_or xs k d) ≡ true
    → list_any q (filter p xs) ≡ true
any-filter q p [] k d within pass hit = absurd (omega arith)
any-filter q p (x ∷ xs) zero d within pass hit = grind (arith, cond-true, or_left)
any-filter q p (x ∷ xs) (suc k) d within pass hit =
    elim (cases_Bool (p x)) [
      | inl t ↦ ap (list_any q) (cond-true (p x) (x ∷ filter p xs) (filter p xs) t)
          ∙ or_right (q x) (list_any q (filter p xs)) (any-filter q p xs k d (omega arith) pass hit)
      | inr f ↦ ap (list_any q) (cond-false (p x) (x ∷ filter p xs) (filter p xs) f) ∙ any-filter q p xs k d (omega arith) pass hit
    ]

-- the place of a span of several lines stands among the places
pub place-among : (s : Source) (marks : List Annotation) (a : Annotation) → Contains marks a → is_long s.text a ≡ true
    → list_any (same_place (long_place (long_entry s a))) (long_places s marks) ≡ true
place-among s marks a among long = grind (arith, list_any-map, any-order, any-filter, same-refl)

-- spans of several lines that share a line and have one depth have one place
pub annotations-distinct : (s : Source) (marks : List Annotation) (a b : Annotation) → Contains marks a → Contains marks b → is_long s.text a ≡ true
    → is_long s.text b ≡ true → share_line (long_place (long_entry s a)) (long_place (long_entry s b)) ≡ true
    → depth_of s marks a ≡ depth_of s marks b → long_place (long_entry s a) ≡ long_place (long_entry s b)
annotations-distinct s marks a b among-a among-b long-a long-b share same =
    distinct-places (long_places s marks) (long_place (long_entry s a)) (long_place (long_entry s b)) (place-among s marks a among-a long-a)
    (place-among s marks b among-b long-b) share same
