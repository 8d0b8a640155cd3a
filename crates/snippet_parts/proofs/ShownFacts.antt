-- What is known of the lines that are kept, and of those that are shown: their order, and which are among them.
use Rattle.snippet_parts.proofs.Common.{common_steps, ◌≡◌, ℕ, zero, suc, ◌+◌, ◌-◌, ◌<◌, ◌≤◌, Bool, true, eqb, List, [], ◌∷◌, length, get_or, ◌⊎◌, inl}
use Rattle.snippet_parts.proofs.Common.{inr, refl, sym, ap, subst, ◌∙◌, arith, All, Contains, filter, range_with_len, cond-true, cond_both, eqb-true, or_right}
use Rattle.snippet_parts.proofs.Common.{length-range_with_len, get_or-range_with_len, Annotation, Ascends, keeps, kept_lines, shown_lines, with_between}
use Rattle.snippet_parts.proofs.Common.{source_lines, first_line, last_line, IsSpan, line_of-within}
use Rattle.snippet_parts.proofs.BetweenLemmas.{rest_between, between-rest}
use Rattle.snippet_parts.proofs.KeptPartLemmas.{any-member, keeps-first, keeps-last}

-- ---- order

-- each number is `from` or more, below `to`, and below those after it
Rises : ℕ → ℕ → List ℕ → Type 0
Rises from to [] = Unit {0}
Rises from to (k ∷ ks) = (from ≤ k) × (k < to) × Rises (k + 1) to ks

rises-lower : (from less to : ℕ) (ks : List ℕ) → less ≤ from → Rises from to ks → Rises less to ks
unfolding Rises
rises-lower from less to [] le rises = tt
rises-lower from less to (k ∷ ks) le rises = (omega (arith, rises.0), rises.1, rises.2)

rises-filter : (p : ℕ → Bool) (a n to : ℕ) → a + n ≤ to → Rises a to (filter p (range_with_len a n))
unfolding Rises
rises-filter p a zero to within = tt
rises-filter p a (suc n) to within =
    let rest : Rises (a + 1) to (filter p (range_with_len (a + 1) n)) = rises-filter p (a + 1) n to (omega arith) in
    cond_both (p a) (a ∷ filter p (range_with_len (a + 1) n)) (filter p (range_with_len (a + 1) n)) (Rises a to) (λ _. (omega arith, omega arith, rest)) (λ _.
    rises-lower (a + 1) a to (filter p (range_with_len (a + 1) n)) (omega arith) rest)

rises-rest : (j to : ℕ) (ks : List ℕ) → Rises (j + 1) to ks → Rises (j + 1) to (rest_between j ks)
unfolding Rises
rises-rest j to [] rises = tt
rises-rest j to (k ∷ ks) rises = grind (arith, cond_both, eqb-true, rises-rest k to ks rises.2)

rises-between : (from to : ℕ) (ks : List ℕ) → Rises from to ks → Rises from to (with_between ks)
unfolding Rises
rises-between from to [] rises = tt
rises-between from to (k ∷ ks) rises = grind (arith, rises-rest, between-rest)

rises-at : (from to : ℕ) (ks : List ℕ) (i d : ℕ) → Rises from to ks → i < length ks → (from ≤ get_or ks i d) × (get_or ks i d < to)
unfolding Rises
rises-at from to [] i d rises within = absurd (omega arith)
rises-at from to (k ∷ ks) zero d rises within = (rises.0, rises.1)
rises-at from to (k ∷ ks) (suc i) d rises within =
    let rest : (k + 1 ≤ get_or ks i d) × (get_or ks i d < to) = rises-at (k + 1) to ks i d rises.2 (omega arith) in (omega (arith, rises.0, rest.0), rest.1)

rises-pairs : (from to : ℕ) (ks : List ℕ) → Rises from to ks → Ascends ks
unfolding Rises
rises-pairs from to [] rises i j d less within = absurd (omega arith)
rises-pairs from to (k ∷ ks) rises i zero d less within = absurd (omega arith)
rises-pairs from to (k ∷ ks) rises zero (suc j) d less within = omega (arith, (rises-at (k + 1) to ks j d rises.2 (omega arith)).0)
rises-pairs from to (k ∷ ks) rises (suc i) (suc j) d less within = rises-pairs (k + 1) to ks rises.2 i j d (omega arith) (omega arith)

kept-rises : (fold : Bool) (source : List ℕ) (marks : List Annotation) → Rises 0 (length (source_lines source)) (kept_lines fold source marks)
kept-rises fold source marks = grind (arith, rises-filter)

shown-rises : (fold : Bool) (source : List ℕ) (marks : List Annotation) → Rises 0 (length (source_lines source)) (shown_lines fold source marks)
shown-rises fold source marks = rises-between 0 (length (source_lines source)) (kept_lines fold source marks) (kept-rises fold source marks)

-- the lines that are kept ascend, and are lines of the source
pub kept-ascends : (fold : Bool) (source : List ℕ) (marks : List Annotation) → Ascends (kept_lines fold source marks)
kept-ascends fold source marks = rises-pairs 0 (length (source_lines source)) (kept_lines fold source marks) (kept-rises fold source marks)

pub kept-within : (fold : Bool) (source : List ℕ) (marks : List Annotation) → All (λ k. k < length (source_lines source)) (kept_lines fold source marks)
kept-within fold source marks i d within = (rises-at 0 (length (source_lines source)) (kept_lines fold source marks) i d
    (kept-rises fold source marks) within).1

-- and so are those that are shown
pub shown-ascends : (fold : Bool) (source : List ℕ) (marks : List Annotation) → Ascends (shown_lines fold source marks)
shown-ascends fold source marks = rises-pairs 0 (length (source_lines source)) (shown_lines fold source marks) (shown-rises fold source marks)

-- each line that is shown is a line of the source
pub shown-within : (fold : Bool) (source : List ℕ) (marks : List Annotation) → All (λ k. k < length (source_lines source)) (shown_lines fold source marks)
shown-within fold source marks i d within = (rises-at 0 (length (source_lines source)) (shown_lines fold source marks) i d
    (shown-rises fold source marks) within).1

-- ---- which lines are among them

-- a list contains its first element
pub contains-here : {X : Type 0} (x y : X) (xs : List X) → y ≡ x → Contains (y ∷ xs) x
contains-here x y xs same = (0, omega arith, same)

-- what a list contains it contains after one more element is put in front
pub contains-there : {X : Type 0} (x y : X) (xs : List X) → Contains xs x → Contains (y ∷ xs) x
contains-there x y xs among = (suc among.0, omega (arith, among.1), among.2)

-- what a list contains is its first element, or the rest contains it
pub contains-cases : {X : Type 0} (x y : X) (xs : List X) → Contains (y ∷ xs) x → (y ≡ x) ⊎ Contains xs x
contains-cases {X} x y xs among = grind (arith)

-- what a list contains and passes the test is among those that pass it
pub contains-filter : {X : Type 0} (p : X → Bool) (x : X) (xs : List X) → p x ≡ true → Contains xs x → Contains (filter p xs) x
contains-filter p x [] passes among = absurd (omega (arith, among.1))
contains-filter p x (y ∷ xs) passes among =
    elim (contains-cases x y xs among) [
      | inl same ↦ subst (λ ys. Contains ys x) (sym (cond-true (p y) (y ∷ filter p xs) (filter p xs) (ap p same ∙ passes)))
          (contains-here x y (filter p xs) same)
      | inr later ↦ let rest = contains-filter p x xs passes later in cond_both (p y) (y ∷ filter p xs) (filter p xs) (λ ys. Contains ys x) (λ _.
          contains-there x y (filter p xs) rest) (λ _. rest)
    ]

contains-range : (a n x : ℕ) → a ≤ x → x < a + n → Contains (range_with_len a n) x
contains-range a n x from to =
    let at : get_or (range_with_len a n) (x - a) x ≡ a + (x - a) = get_or-range_with_len a n (x - a) x (omega arith) in
    (x - a, omega (arith, length-range_with_len a n), omega arith)

contains-rest : (j x : ℕ) (ks : List ℕ) → Contains ks x → Contains (rest_between j ks) x
contains-rest j x [] among = absurd (omega (arith, among.1))
contains-rest j x (k ∷ ks) among =
    let rest : Contains (k ∷ rest_between k ks) x = elim (contains-cases x k ks among) [
      | inl same ↦ contains-here x k (rest_between k ks) same
      | inr later ↦ contains-there x k (rest_between k ks) (contains-rest k x ks later)
    ] in
    cond_both (eqb k (j + 2)) ((j + 1) ∷ k ∷ rest_between k ks) (k ∷ rest_between k ks) (λ ys. Contains ys x) (λ _.
    contains-there x (j + 1) (k ∷ rest_between k ks) rest) (λ _. rest)

contains-between : (x : ℕ) (ks : List ℕ) → Contains ks x → Contains (with_between ks) x
contains-between x [] among = among
contains-between x (k ∷ ks) among =
    subst (λ ys. Contains ys x) (sym (between-rest k ks)) (elim (contains-cases x k ks among) [
      | inl same ↦ contains-here x k (rest_between k ks) same
      | inr later ↦ contains-there x k (rest_between k ks) (contains-rest k x ks later)
    ])

-- each line that is kept is shown
pub kept-shown : (fold : Bool) (source : List ℕ) (marks : List Annotation) (k : ℕ) → Contains (kept_lines fold source marks) k
    → Contains (shown_lines fold source marks) k
kept-shown fold source marks k among = contains-between k (kept_lines fold source marks) among

-- a line that a span keeps is kept
pub span-kept : (fold : Bool) (source : List ℕ) (marks : List Annotation) (a : Annotation) (k : ℕ) → Contains marks a → k < length (source_lines source)
    → keeps source k a ≡ true → Contains (kept_lines fold source marks) k
span-kept fold source marks a k among within kept = grind (arith, common_steps, contains-filter, or_right, any-member, contains-range)

-- the first and the last line of each span are kept
pub first_kept : (fold : Bool) (source : List ℕ) (marks : List Annotation) (a : Annotation) → Contains marks a → IsSpan source a.span.start a.span.end
    → Contains (kept_lines fold source marks) (first_line source a)
first_kept fold source marks a among span =
    span-kept fold source marks a (first_line source a) among (line_of-within source a.span.start) (keeps-first source a (first_line source a) span refl)

-- the line on which a span ends is kept
pub last_kept : (fold : Bool) (source : List ℕ) (marks : List Annotation) (a : Annotation) → Contains marks a → IsSpan source a.span.start a.span.end
    → Contains (kept_lines fold source marks) (last_line source a)
last_kept fold source marks a among span =
    span-kept fold source marks a (last_line source a) among (line_of-within source a.span.end) (keeps-last source a (last_line source a) span refl)

-- so they are shown
pub shown_lines-first_line : (fold : Bool) (source : List ℕ) (marks : List Annotation) (a : Annotation) → Contains marks a
    → IsSpan source a.span.start a.span.end
    → Contains (shown_lines fold source marks) (first_line source a)
shown_lines-first_line fold source marks a among span = kept-shown fold source marks (first_line source a) (first_kept fold source marks a among span)

-- the line on which a span ends is shown
pub last-shown : (fold : Bool) (source : List ℕ) (marks : List Annotation) (a : Annotation) → Contains marks a → IsSpan source a.span.start a.span.end
    → Contains (shown_lines fold source marks) (last_line source a)
last-shown fold source marks a among span = kept-shown fold source marks (last_line source a) (last_kept fold source marks a among span)
