-- What an array gives, item by item, is what it holds.
use Rattle.std.proofs.Common.{◌≡◌, ℕ, Result, Ok, Err, IfOk, List, [], ◌∷◌, ◌++◌, All, length, sym, subst, ap, ◌∙◌}
use Rattle.std.proofs.lemmas.List.{nil_from_length}
use Rattle.std.proofs.lemmas.List.Elements.{All-nil, All-cons, All-append}
use Rattle.std.specs.Iterator.{Drains}
use Rattle.std.specs.Array.Iter.{array_into_iter_items, array_steps}
use Rattle.std.specs.declared.array.IntoIter.{IntoIter}

-- what is drained from an array's iterator is its items
pub array-drained : {A : Type 0} → {n : ℕ} → (xs : List A) → (it : IntoIter A n) → Drains array_steps it xs → xs ≡ array_into_iter_items it
array-drained [] it (u, (t, here, none)) = sym (nil_from_length (array_into_iter_items it) (ap (λ s. length (array_into_iter_items s)) here ∙ none.0))
array-drained (x ∷ xs) it (u, (t, (j, first, rest), none)) = ap (λ l. x ∷ l) (array-drained xs j (u, (t, rest, none))) ∙ sym first

-- two facts of the value, where there is one
pub IfOk-both : {X E : Type 0} → (P Q : X → Type 0) → (r : Result X E) → IfOk r P → IfOk r Q → IfOk r (λ x. P x × Q x)
IfOk-both P Q (Ok x) one other = (one, other)
IfOk-both P Q (Err e) one other = one

-- what is said of each item of a list that grows at its end
pub all_push : {X : Type 0} (P : X → Type 0) (xs ys : List X) (x : X) → ys ≡ xs ++ x ∷ [] → All P xs → P x → All P ys
all_push P xs ys x is before last =
    subst (All P) (sym is) (All-append P xs (x ∷ []) before (All-cons P x [] last (All-nil P)))
