-- What stands in a list, and that the least and the greatest number of a list follow from it alone.
use Rattle.snippet_parts.proofs.Common.{◌≡◌, ◌∙◌, ◌⊎◌, ℕ, zero, suc, ◌+◌, ◌<◌, ◌≤◌, Bool, true, ◌||◌, List, [], ◌∷◌, ◌++◌, Option, Some, map, fold, max}
use Rattle.snippet_parts.proofs.Common.{unwrap_or, refl, sym, ap, subst, inl, inr, arith, filter, flat_map, list_all, list_any, cons_option, filter_map}
use Rattle.snippet_parts.proofs.Common.{range_with_len, cases_Bool, cases_lt, cond-true, cond-false, or_left, or_right, and_parts, All-head, All-tail, put_in}
use Rattle.snippet_parts.proofs.Common.{ordered_by, least, greatest}
use Rattle.std.proofs.Common.{All}
use Rattle.snippet_parts.proofs.LeastLemmas.{least_below}

-- x stands in the list
abbrev pub Among : {X : Type 0} → List X → X → Type 0
Among [] x = ⊥
Among (y ∷ ys) x = (y ≡ x) ⊎ Among ys x

-- what holds of each element holds of one that stands there
pub all_among : {X : Type 0} (P : X → Type 0) (xs : List X) (x : X) → All P xs → Among xs x → P x
all_among P [] x all here = absurd here
all_among P (y ∷ ys) x all (inl same) = subst P same (All-head P y ys all)
all_among P (y ∷ ys) x all (inr later) = all_among P ys x (All-tail P y ys all) later

-- ---- lists that are made of others

-- what is among the first of two lists is among both together
pub among_left : {X : Type 0} (xs ys : List X) (x : X) → Among xs x → Among (xs ++ ys) x
among_left [] ys x here = absurd here
among_left (z ∷ zs) ys x (inl same) = inl same
among_left (z ∷ zs) ys x (inr later) = inr (among_left zs ys x later)

-- what is among the second of two lists is among both together
pub among_right : {X : Type 0} (xs ys : List X) (x : X) → Among ys x → Among (xs ++ ys) x
among_right [] ys x here = here
among_right (z ∷ zs) ys x here = inr (among_right zs ys x here)

-- what is among two lists together is among one of them
pub append_cases : {X : Type 0} (xs ys : List X) (x : X) → Among (xs ++ ys) x → Among xs x ⊎ Among ys x
append_cases [] ys x here = inr here
append_cases (z ∷ zs) ys x (inl same) = inl (inl same)
append_cases (z ∷ zs) ys x (inr later) = grind (arith, append_cases zs ys x later)

-- what is made from an element is among what is made from all
pub among_map : {X Y : Type 0} (f : X → Y) (xs : List X) (x : X) → Among xs x → Among (map f xs) (f x)
among_map f [] x here = here
among_map f (z ∷ zs) x (inl same) = inl (ap f same)
among_map f (z ∷ zs) x (inr later) = inr (among_map f zs x later)

-- what is among the made elements is made from one
pub map_cases : {X Y : Type 0} (f : X → Y) (xs : List X) (y : Y) → Among (map f xs) y → (x : X) × Among xs x × (f x ≡ y)
map_cases f [] y here = absurd here
map_cases f (z ∷ zs) y (inl same) = (z, inl refl, same)
map_cases f (z ∷ zs) y (inr later) = let more = map_cases f zs y later in (more.0, inr more.1, more.2)

-- an element that passes is among those that pass
pub among_filter : {X : Type 0} (p : X → Bool) (xs : List X) (x : X) → Among xs x → p x ≡ true → Among (filter p xs) x
among_filter p [] x here passes = here
among_filter p (z ∷ zs) x (inl same) passes = grind (arith, cond-true)
among_filter p (z ∷ zs) x (inr later) passes = grind (arith, cond-true, cond-false, among_filter p zs x later passes)

-- what is among those that pass is an element, and passes
pub filter_cases : {X : Type 0} (p : X → Bool) (xs : List X) (x : X) → Among (filter p xs) x → Among xs x × (p x ≡ true)
filter_cases p [] x here = absurd here
filter_cases p (z ∷ zs) x here = grind (arith, cond-true, cond-false, filter_cases p zs x)

-- what is among what one element gives is among what all give
pub among_flat_map : {X Y : Type 0} (f : X → List Y) (xs : List X) (x : X) (y : Y) → Among xs x → Among (f x) y → Among (flat_map f xs) y
among_flat_map f [] x y here inside = absurd here
among_flat_map f (z ∷ zs) x y (inl same) inside = grind (arith, among_left)
among_flat_map f (z ∷ zs) x y (inr later) inside = among_right (f z) (flat_map f zs) y (among_flat_map f zs x y later inside)

-- what is among what all elements give is among what one gives
pub flat_map_cases : {X Y : Type 0} (f : X → List Y) (xs : List X) (y : Y) → Among (flat_map f xs) y → (x : X) × Among xs x × Among (f x) y
flat_map_cases f [] y here = absurd here
flat_map_cases f (z ∷ zs) y here =
    elim (append_cases (f z) (flat_map f zs) y here) [
      | inl first ↦ (z, inl refl, first)
      | inr later ↦ (let more = flat_map_cases f zs y later in (more.0, inr more.1, more.2))
    ]

-- a list in order has the same elements
among_put : {X : Type 0} (before : X → X → Bool) (y : X) (xs : List X) (x : X) → Among (y ∷ xs) x → Among (put_in before y xs) x
among_put before y [] x here = here
among_put before y (z ∷ zs) x here = grind (arith, cond-true, cond-false, among_put before y zs x)

put_cases : {X : Type 0} (before : X → X → Bool) (y : X) (xs : List X) (x : X) → Among (put_in before y xs) x → Among (y ∷ xs) x
put_cases before y [] x here = here
put_cases before y (z ∷ zs) x here = grind (arith, cond-true, cond-false, put_cases before y zs x)

-- an element is among those in order
pub among_in_order : {X : Type 0} (before : X → X → Bool) (xs : List X) (x : X) → Among xs x → Among (ordered_by before xs) x
among_in_order before [] x here = here
among_in_order before (y ∷ ys) x (inl same) = among_put before y (ordered_by before ys) x (inl same)
among_in_order before (y ∷ ys) x (inr later) = among_put before y (ordered_by before ys) x (inr (among_in_order before ys x later))

-- what is among those in order is an element
pub in_order_cases : {X : Type 0} (before : X → X → Bool) (xs : List X) (x : X) → Among (ordered_by before xs) x → Among xs x
in_order_cases before [] x here = here
in_order_cases before (y ∷ ys) x here =
    elim (put_cases before y (ordered_by before ys) x here) [
      | inl same ↦ inl same
      | inr later ↦ inr (in_order_cases before ys x later)
    ]

-- numbers in a row
pub among_range : (a n k : ℕ) → a ≤ k → k < a + n → Among (range_with_len a n) k
among_range a zero k from to = absurd (omega arith)
among_range a (suc n) k from to =
    elim (cases_lt a k) [ inl more ↦ inr (among_range (a + 1) n k (omega arith) (omega arith)) | inr first ↦ inl (omega arith) ]

-- an element that passes
pub any_among : {X : Type 0} (p : X → Bool) (xs : List X) (x : X) → Among xs x → p x ≡ true → list_any p xs ≡ true
any_among p [] x here passes = absurd here
any_among p (z ∷ zs) x (inl same) passes = or_left (p z) (list_any p zs) (ap p same ∙ passes)
any_among p (z ∷ zs) x (inr later) passes = or_right (p z) (list_any p zs) (any_among p zs x later passes)

-- where any element passes there is one that does
pub any_cases : {X : Type 0} (p : X → Bool) (xs : List X) → list_any p xs ≡ true → (x : X) × Among xs x × (p x ≡ true)
any_cases p [] any = absurd cc
any_cases p (z ∷ zs) any =
    elim (cases_Bool (p z)) [
      | inl passes ↦ (z, inl refl, passes)
      | inr fails ↦ (let more = any_cases p zs (ap (λ b. b || list_any p zs) (sym fails) ∙ any) in (more.0, inr more.1, more.2))
    ]

-- each element passes
pub all_pass : {X : Type 0} (p : X → Bool) (xs : List X) (x : X) → list_all p xs ≡ true → Among xs x → p x ≡ true
all_pass p [] x all here = absurd here
all_pass p (z ∷ zs) x all (inl same) = ap p (sym same) ∙ (and_parts (p z) (list_all p zs) all).0
all_pass p (z ∷ zs) x all (inr later) = all_pass p zs x (and_parts (p z) (list_all p zs) all).1 later

among_after : {X : Type 0} (o : Option X) (xs : List X) (x : X) → Among xs x → Among (cons_option o xs) x
among_after x y z u = grind (arith)

-- what a partial function gives of an element
pub among_filter_map : {X Y : Type 0} (h : X → Option Y) (xs : List X) (x : X) (y : Y) → Among xs x → h x ≡ Some y → Among (filter_map h xs) y
among_filter_map h [] x y here is = absurd here
among_filter_map h (z ∷ zs) x y (inl same) is = grind (arith)
among_filter_map h (z ∷ zs) x y (inr later) is = grind (arith, among_after, among_filter_map h zs x y later is)

-- ---- the least and the greatest number of a list

-- the least of some numbers is one of them
pub least-among : (n : ℕ) (ns : List ℕ) → Among (n ∷ ns) (unwrap_or (least (n ∷ ns)) 0)
least-among n [] = inl refl
least-among n (m ∷ ns) = grind (arith, unwrap_or, least-among m ns)

-- the least number is no greater than any
pub least_le : (ns : List ℕ) (n : ℕ) → Among ns n → unwrap_or (least ns) 0 ≤ n
least_le ns n here = all_among (λ k. unwrap_or (least ns) 0 ≤ k) ns n (least_below ns) here

-- two lists with the same elements have the same least number
pub least_same : (ns ms : List ℕ) → ((c : ℕ) → Among ns c → Among ms c) → ((c : ℕ) → Among ms c → Among ns c) → unwrap_or (least ns) 0 ≡ unwrap_or (least ms) 0
least_same [] [] there back = refl
least_same [] (m ∷ ms) there back = absurd (back m (inl refl))
least_same (n ∷ ns) [] there back = absurd (there n (inl refl))
least_same (n ∷ ns) (m ∷ ms) there back =
    let first : ℕ = unwrap_or (least (n ∷ ns)) 0 in
    let second : ℕ = unwrap_or (least (m ∷ ms)) 0 in
    let low : first ≤ second = all_among (λ k. first ≤ k) (n ∷ ns) second (least_below (n ∷ ns)) (back second (least-among m ms)) in
    let high : second ≤ first = all_among (λ k. second ≤ k) (m ∷ ms) first (least_below (m ∷ ms)) (there first (least-among n ns)) in
    omega (arith, low, high)

-- the greatest of a number and those of a list
abbrev top : ℕ → List ℕ → ℕ
top m ns = fold (λ a b. max a b) m ns

top_from : (m : ℕ) (ns : List ℕ) → m ≤ top m ns
top_from m [] = omega arith
top_from m (n ∷ ns) = omega (arith, top_from (max m n) ns)

top_above : (m : ℕ) (ns : List ℕ) (c : ℕ) → Among ns c → c ≤ top m ns
top_above m [] c here = absurd here
top_above m (n ∷ ns) c (inl same) = omega (arith, same, top_from (max m n) ns)
top_above m (n ∷ ns) c (inr later) = top_above (max m n) ns c later

top_among : (m : ℕ) (ns : List ℕ) → (top m ns ≡ m) ⊎ Among ns (top m ns)
top_among m [] = inl refl
top_among m (n ∷ ns) = grind (arith, top_among (max m n) ns)

-- no greater number stands in a list that has each element of another
greatest_le : (ns ms : List ℕ) → ((c : ℕ) → Among ns c → Among ms c) → greatest ns ≤ greatest ms
greatest_le ns ms there = grind (arith, top_among, top_above)

-- lists of the same numbers have the same greatest
pub greatest_same : (ns ms : List ℕ) → ((c : ℕ) → Among ns c → Among ms c) → ((c : ℕ) → Among ms c → Among ns c) → greatest ns ≡ greatest ms
greatest_same ns ms there back = omega (arith, greatest_le ns ms there, greatest_le ms ns back)

-- nor is the greatest of numbers that all are at most so great
pub greatest_most : (ns : List ℕ) (most : ℕ) → ((n : ℕ) → Among ns n → n ≤ most) → greatest ns ≤ most
greatest_most ns most each = grind (arith, top_among)
