-- What a list contains after its elements are chosen or mapped, and what holds of the items of two lists.
use Rattle.std.proofs.lemmas.Grind.{common_steps}
use Rattle.annotate_snippets.proofs.Common.{◌≡◌, ◌<◌, ◌+◌, ℕ, zero, suc, Bool, true, false, cond, List, [], ◌∷◌, ◌++◌, get_or, length}
use Rattle.annotate_snippets.proofs.Common.{map, take, refl, sym, ap, subst, ◌∙◌, arith, inl, inr, ◌⊎◌, AllZip, Contains, filter, list_any}
use Rattle.annotate_snippets.proofs.Common.{cases_Bool, get_or-map, length-map, take_more, AllZip-last}

module _ {X : Type 0} where
  -- a list contains its first element
  pub Contains-head : (x : X) (xs : List X) → Contains (x ∷ xs) x
  Contains-head x xs = (0, omega arith, refl)

  -- what a list contains it contains after one more element is put in front
  pub Contains-tail : (x y : X) (xs : List X) → Contains xs y → Contains (x ∷ xs) y
  Contains-tail x y xs in_xs = (suc in_xs.0, omega (arith, in_xs.1), in_xs.2)

  -- what a list contains is its first element, or the rest contains it
  pub Contains-cons_cases : (x y : X) (xs : List X) → Contains (x ∷ xs) y → (x ≡ y) ⊎ Contains xs y
  Contains-cons_cases x y xs (zero, within, same) = inl same
  Contains-cons_cases x y xs (suc k, within, same) = inr (k, omega arith, same)

  -- the empty list contains nothing
  pub Contains-nil : (x : X) → Contains [] x → ⊥
  Contains-nil x (k, within, same) = absurd (omega arith)

  -- an element that passes is one of those chosen
  pub Contains-filter : (p : X → Bool) (xs : List X) (x : X) → p x ≡ true → Contains xs x → Contains (filter p xs) x
  Contains-filter p [] x passes among = absurd (Contains-nil x among)
  Contains-filter p (y ∷ xs) x passes among =
      elim (Contains-cons_cases y x xs among) [
        | inl same ↦ subst (λ z. Contains (cond (p y) (y ∷ filter p xs) (filter p xs)) z) same (kept (p y) (ap p same ∙ passes))
        | inr rest ↦ later (p y) (Contains-filter p xs x passes rest)
      ]
    where
      kept : (b : Bool) → b ≡ true → Contains (cond b (y ∷ filter p xs) (filter p xs)) y
      kept true passed = Contains-head y (filter p xs)
      kept false never = cc

      later : (b : Bool) → Contains (filter p xs) x → Contains (cond b (y ∷ filter p xs) (filter p xs)) x
      later true rest = Contains-tail y x (filter p xs) rest
      later false rest = rest

  -- what is made from an element of a list is among what is made from all
  pub Contains-map : {Y : Type 0} (f : X → Y) (xs : List X) (x : X) → Contains xs x → Contains (map f xs) (f x)
  Contains-map f xs x among = (among.0, omega (arith, length-map xs f, among.1), get_or-map f xs among.0 x (f x) among.1 ∙ ap f among.2)

  rest_any : (q : X → Bool) (x : X) (xs : List X) → q x ≡ false → list_any q (x ∷ xs) ≡ true → list_any q xs ≡ true
  rest_any q x xs fails some = grind arith

  -- where some element passes, there is one that does
  pub from_any : (q : X → Bool) (xs : List X) → list_any q xs ≡ true → (x : X) × Contains xs x × (q x ≡ true)
  from_any q [] some = cc
  from_any q (x ∷ xs) some =
      elim (cases_Bool (q x)) [
        | inl passes ↦ (x, Contains-head x xs, passes)
        | inr fails ↦ grind (arith, common_steps, from_any q xs (rest_any q x xs fails some), rest_any, Contains-tail)
      ]

-- what holds of pairs so far holds with one more pair of which it holds
pub AllZip-push : {A B : Type 0} (P : A → B → Type 0) (xs : List A) (i : ℕ) (d : A) → i < length xs → (ys new : List B) (y : B) → new ≡ ys ++ y ∷ []
    → AllZip P (take i xs) ys → P (get_or xs i d) y → AllZip P (take (i + 1) xs) new
AllZip-push P xs i d within ys new y pushed before last =
    subst (λ zs. AllZip P zs new) (sym (take_more xs i d within)) (subst (λ zs.
    AllZip P (take i xs ++ get_or xs i d ∷ []) zs) (sym pushed) (AllZip-last P (take i xs) ys (get_or xs i d) y before last))
