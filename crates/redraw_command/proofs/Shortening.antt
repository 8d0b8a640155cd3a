-- A list of which some first elements are changed, one after the other.
use Rattle.std.proofs.Common.{◌≡◌, ℕ, zero, suc, ◌+◌, ◌<◌, List, [], ◌∷◌, ◌++◌, drop, take, set, get_or, length, refl, subst, arith}
use Rattle.std.specs.List.{AllZip}

-- the first elements of two lists, so many, stand so to each other, and those after them are the same
pub front_so : {X : Type 0} → (X → X → Type 0) → ℕ → List X → List X → Type 0
front_so P zero old new = new ≡ old
front_so P (suc n) [] new = new ≡ []
front_so P (suc n) (x ∷ old) [] = ⊥
front_so P (suc n) (x ∷ old) (y ∷ new) = P x y × front_so P n old new

-- with one more
front_next : {X : Type 0} (P : X → X → Type 0) (n : ℕ) (old new : List X) (d y : X) → n < length old → front_so P n old new → P (get_or new n d) y
    → front_so P (suc n) old (set new n y)
unfolding front_so
front_next P n [] new d y within front is = absurd (omega (arith, within))
front_next P zero (x ∷ old) [] d y within front is = absurd (cc front)
front_next P zero (x ∷ old) (z ∷ new) d y within front is = (subst (λ w. P w y) (cc front) is, cc front)
front_next P (suc n) (x ∷ old) [] d y within front is = absurd front
front_next P (suc n) (x ∷ old) (z ∷ new) d y within front is = (front.0, front_next P n old new d y (omega (arith, within)) front.1 is)

pub front_more : {X : Type 0} (P : X → X → Type 0) (n : ℕ) (old new : List X) (d y : X) → n < length old → front_so P n old new → P (get_or new n d) y
    → front_so P (n + 1) old (set new n y)
front_more P n old new d y within front is =
    let on : suc n ≡ n + 1 = omega arith in
    subst (λ m. front_so P m old (set new n y)) on (front_next P n old new d y within front is)

-- where these are all, all of them stand so
front_all : {X : Type 0} (P : X → X → Type 0) (old new : List X) → front_so P (length old) old new → AllZip P old new
unfolding front_so
front_all P [] [] front = tt
front_all P [] (y ∷ new) front = absurd (cc front)
front_all P (x ∷ old) [] front = absurd front
front_all P (x ∷ old) (y ∷ new) front = (front.0, front_all P old new front.1)

pub front_end : {X : Type 0} (P : X → X → Type 0) (n : ℕ) (old new : List X) → n ≡ length old → front_so P n old new → AllZip P old new
front_end P n old new is front = front_all P old new (subst (λ m. front_so P m old new) is front)

pub front_none : {X : Type 0} (P : X → X → Type 0) (old : List X) → front_so P 0 old old
unfolding front_so
front_none P old = refl

-- a list that is written back to where it was taken from, which is as long
pub in_place : {X : Type 0} (P : X → X → Type 0) (n : ℕ) (old new : List X) → n ≡ length old → AllZip P old new
    → AllZip P old (take n (new ++ drop (length new) old))
in_place P zero [] [] long so = tt
in_place P zero [] (y ∷ new) long so = absurd so
in_place P zero (x ∷ old) new long so = absurd (omega (arith, long))
in_place P (suc n) [] new long so = absurd (omega (arith, long))
in_place P (suc n) (x ∷ old) [] long so = absurd so
in_place P (suc n) (x ∷ old) (y ∷ new) long so = (so.0, in_place P n old new (omega (arith, long)) so.1)

-- the same where it is known as that
pub put_back : {X : Type 0} (P : X → X → Type 0) (n : ℕ) (old lent new : List X) → n ≡ length old → lent ≡ old → AllZip P lent new
    → AllZip P old (take n (new ++ drop (length new) old))
put_back P n old lent new long same so = in_place P n old new long (subst (λ l. AllZip P l new) same so)
