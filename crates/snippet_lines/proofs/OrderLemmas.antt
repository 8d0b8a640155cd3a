-- A stable sort has one answer: the list put in order.
use Rattle.snippet_lines.proofs.Common.{◌≡◌, suc, ◌+◌, Bool, true, false, cond, not, List, [], ◌∷◌, map, filter, All, get_or, refl, sym, ap, subst, ◌∙◌, ⊎_elim}
use Rattle.snippet_lines.proofs.Common.{arith, cases_Bool, cond-true, cond-false, and_from, false_from_ne_true, not_from_false, All-nil, All-cons, All-head}
use Rattle.snippet_lines.proofs.Common.{All-tail, sorted_far, IsStrictWeakOrder, IsSortedBy, IsStableBy, ties, put_in, ordered_by}

-- each later element comes before none that stands earlier
abbrev pub Rises : {X : Type 0} → (X → X → Bool) → List X → Type 0
Rises lt [] = Unit {0}
Rises lt (x ∷ xs) = All (λ y. lt y x ≡ false) xs × Rises lt xs

-- where no element passes the test, none is left
pub filter-none : {X : Type 0} (p : X → Bool) (xs : List X) → All (λ x. p x ≡ false) xs → filter p xs ≡ []
filter-none p [] none = refl
filter-none p (x ∷ xs) none =
    cond-false (p x) (x ∷ filter p xs) (filter p xs) (All-head (λ x. p x ≡ false) x xs none) ∙ filter-none p xs (All-tail (λ x. p x ≡ false) x xs none)

ties-parts : {X : Type 0} (lt : X → X → Bool) (x y : X) → ties lt x y ≡ true → (lt x y ≡ false) × (lt y x ≡ false)
ties-parts lt x y t = grind arith

ties-from : {X : Type 0} (lt : X → X → Bool) (x y : X) → lt x y ≡ false → lt y x ≡ false → ties lt x y ≡ true
ties-from lt x y a b =
    and_from (not (lt x y)) (not (lt y x)) (not_from_false (lt x y) a) (not_from_false (lt y x) b)

never-itself : {X : Type 0} (lt : X → X → Bool) → IsStrictWeakOrder lt → (x : X) → lt x x ≡ false
never-itself lt o x = ⊎_elim (λ t. o.one_way x x t) (λ f. f) (cases_Bool (lt x x))

-- an element that comes before the first of a list in order ties with none of it
before-all : {X : Type 0} (lt : X → X → Bool) → IsStrictWeakOrder lt → (y x : X) (xs : List X) → Rises lt (x ∷ xs) → lt y x ≡ true
    → filter (ties lt y) (x ∷ xs) ≡ []
before-all {X} lt o y x xs rises before = grind (arith, false_from_ne_true, o.chain, ties-parts, filter-none, All-cons, never-itself, rises.0)

finds-itself : {X : Type 0} (lt : X → X → Bool) → IsStrictWeakOrder lt → (y : X) (ys : List X) → filter (ties lt y) (y ∷ ys) ≡ y ∷ filter (ties lt y) ys
finds-itself lt o y ys =
    cond-true (ties lt y y) (y ∷ filter (ties lt y) ys) (filter (ties lt y) ys) (ties-from lt y y (never-itself lt o y) (never-itself lt o y))

-- the first of two lists in order with the same ties: neither comes before the other
first-ties : {X : Type 0} (lt : X → X → Bool) → IsStrictWeakOrder lt → (y x : X) (ys xs : List X) → Rises lt (x ∷ xs)
    → filter (ties lt y) (y ∷ ys) ≡ filter (ties lt y) (x ∷ xs) → lt y x ≡ false
first-ties lt o y x ys xs rises same = grind (arith, false_from_ne_true, finds-itself, before-all)

-- two lists in order are the same if the elements that tie with each are
same_rise : {X : Type 0} (lt : X → X → Bool) → IsStrictWeakOrder lt → (xs ys : List X) → Rises lt xs → Rises lt ys
    → ((w : X) → filter (ties lt w) xs ≡ filter (ties lt w) ys) → xs ≡ ys
same_rise lt o [] [] a b same = refl
same_rise lt o [] (y ∷ ys) a b same =
    let e : [] ≡ y ∷ filter (ties lt y) ys = same y ∙ finds-itself lt o y ys in absurd (cc)
same_rise lt o (x ∷ xs) [] a b same =
    let e : [] ≡ x ∷ filter (ties lt x) xs = sym (same x) ∙ finds-itself lt o x xs in absurd (cc)
same_rise {X} lt o (x ∷ xs) (y ∷ ys) a b same =
    let up : lt y x ≡ false = first-ties lt o y x ys xs a (sym (same y)) in
    let down : lt x y ≡ false = first-ties lt o x y xs ys b (same x) in
    let found : x ∷ filter (ties lt x) xs ≡ y ∷ filter (ties lt x) ys = sym (finds-itself lt o x xs) ∙ same x
    ∙ cond-true (ties lt x y) (y ∷ filter (ties lt x) ys) (filter (ties lt x) ys) (ties-from lt x y down up) in
    let head : x ≡ y = cc in
    let rest : (w : X) → filter (ties lt w) xs ≡ filter (ties lt w) ys = λ w. ⊎_elim
    (λ t. let e : x ∷ filter (ties lt w) xs ≡ y ∷ filter (ties lt w) ys = sym (cond-true (ties lt w x) (x ∷ filter (ties lt w) xs) (filter (ties lt w) xs) t)
    ∙ same w ∙ cond-true (ties lt w y) (y ∷ filter (ties lt w) ys) (filter (ties lt w) ys) (subst (λ z. ties lt w z ≡ true) head t) in cc)
    (λ f. sym (cond-false (ties lt w x) (x ∷ filter (ties lt w) xs) (filter (ties lt w) xs) f) ∙ same w
    ∙ cond-false (ties lt w y) (y ∷ filter (ties lt w) ys) (filter (ties lt w) ys) (subst (λ z. ties lt w z ≡ false) head f))
    (cases_Bool (ties lt w x)) in
    let tail : xs ≡ ys = same_rise lt o xs ys a.1 b.1 rest in
    cc

-- ---- the list put in order

-- what holds of an element and of a list holds of the list with the element put in
pub All-put_in : {X : Type 0} (lt : X → X → Bool) (P : X → Type 0) (x : X) (ys : List X) → P x → All P ys → All P (put_in lt x ys)
All-put_in lt P x [] here all = All-cons P x [] here all
All-put_in lt P x (y ∷ ys) here all =
    ⊎_elim (λ t. subst (All P) (sym (cond-true (lt y x) (y ∷ put_in lt x ys) (x ∷ y ∷ ys) t))
    (All-cons P y (put_in lt x ys) (All-head P y ys all) (All-put_in lt P x ys here (All-tail P y ys all))))
    (λ f. subst (All P) (sym (cond-false (lt y x) (y ∷ put_in lt x ys) (x ∷ y ∷ ys) f)) (All-cons P x (y ∷ ys) here all)) (cases_Bool (lt y x))

Rises-put_in : {X : Type 0} (lt : X → X → Bool) → IsStrictWeakOrder lt → (x : X) (ys : List X) → Rises lt ys → Rises lt (put_in lt x ys)
Rises-put_in lt o x [] up = (All-nil (λ y. lt y x ≡ false), tt)
Rises-put_in {X} lt o x (y ∷ ys) up =
    ⊎_elim (λ t. subst (Rises lt) (sym (cond-true (lt y x) (y ∷ put_in lt x ys) (x ∷ y ∷ ys) t))
    (All-put_in lt (λ z. lt z y ≡ false) x ys (o.one_way y x t) up.0, Rises-put_in lt o x ys up.1))
    (λ f. subst (Rises lt) (sym (cond-false (lt y x) (y ∷ put_in lt x ys) (x ∷ y ∷ ys) f))
    (All-cons (λ z. lt z x ≡ false) y ys f (λ k d within. o.chain (get_or ys k d) y x (up.0 k d within) f), up)) (cases_Bool (lt y x))

Rises-ordered_by : {X : Type 0} (lt : X → X → Bool) → IsStrictWeakOrder lt → (xs : List X) → Rises lt (ordered_by lt xs)
Rises-ordered_by lt o [] = tt
Rises-ordered_by lt o (x ∷ xs) = Rises-put_in lt o x (ordered_by lt xs) (Rises-ordered_by lt o xs)

-- putting an element in doesn't move it among those that tie
filter-put_in : {X : Type 0} (lt : X → X → Bool) → IsStrictWeakOrder lt → (w x : X) (ys : List X)
    → filter (ties lt w) (put_in lt x ys) ≡ filter (ties lt w) (x ∷ ys)
filter-put_in lt o w x [] = refl
filter-put_in {X} lt o w x (y ∷ ys) = grind (arith, cond-true, filter-put_in lt o w x ys, false_from_ne_true, o.chain, ties-parts, cond-false, cases_Bool)

filter-ordered_by : {X : Type 0} (lt : X → X → Bool) → IsStrictWeakOrder lt → (w : X) (xs : List X)
    → filter (ties lt w) (ordered_by lt xs) ≡ filter (ties lt w) xs
filter-ordered_by lt o w [] = refl
filter-ordered_by {X} lt o w (x ∷ xs) =
    filter-put_in lt o w x (ordered_by lt xs) ∙ ap (λ l. cond (ties lt w x) (x ∷ l) l) (filter-ordered_by lt o w xs)

Rises-from_sorted : {X : Type 0} (lt : X → X → Bool) → IsStrictWeakOrder lt → (xs : List X) → IsSortedBy lt xs → Rises lt xs
Rises-from_sorted lt o [] up = tt
Rises-from_sorted {X} lt o (x ∷ xs) up = (
  λ k d within. sorted_far lt o (x ∷ xs) up 0 (suc k) d (omega arith) (omega arith),
  Rises-from_sorted lt o xs (λ k d low high. let e : suc k + 1 ≡ suc (k + 1) = omega arith in subst (λ n.
      lt (get_or (x ∷ xs) n d) (get_or xs k d) ≡ false) e (up (suc k) d (omega arith) (omega arith))),
)

-- what a stable sort makes of a list is the list put in order
pub sorted-only : {X : Type 0} (lt : X → X → Bool) → IsStrictWeakOrder lt → (xs ys : List X) → IsSortedBy lt ys → IsStableBy lt xs ys → ys ≡ ordered_by lt xs
sorted-only lt o xs ys up stable =
    same_rise lt o ys (ordered_by lt xs) (Rises-from_sorted lt o ys up) (Rises-ordered_by lt o xs) (λ w. stable w ∙ sym (filter-ordered_by lt o w xs))

map-put_in : {X Y : Type 0} (f : X → Y) (lt : Y → Y → Bool) (x : X) (ys : List X) → map f (put_in (λ a b. lt (f a) (f b)) x ys) ≡ put_in lt (f x) (map f ys)
map-put_in f lt x [] = refl
map-put_in f lt x (y ∷ ys) = grind (arith, cond-true, map-put_in f lt x ys, cond-false, cases_Bool)

-- putting in order by what a function gives, and taking that, is one
pub map-ordered_by : {X Y : Type 0} (f : X → Y) (lt : Y → Y → Bool) (xs : List X) → map f (ordered_by (λ a b. lt (f a) (f b)) xs) ≡ ordered_by lt (map f xs)
map-ordered_by f lt [] = refl
map-ordered_by f lt (x ∷ xs) =
    map-put_in f lt x (ordered_by (λ a b. lt (f a) (f b)) xs) ∙ ap (put_in lt (f x)) (map-ordered_by f lt xs)
