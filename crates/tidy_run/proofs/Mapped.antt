-- What is made of the first elements of a list, one after another.
use Rattle.std.proofs.Common.{◌≡◌, ℕ, suc, arith, ◌+◌, ◌<◌, List, [], ◌∷◌, ◌++◌, length, map, slice_index_or, take, ap, sym, ◌∙◌}
use Rattle.std.proofs.lemmas.List.{get_or-map, length-map, map-append}
use Rattle.std.proofs.Math.Seq.{take-suc}

-- one more is made
pub mapped-next : {A B C : Type 0} → (f : A → C) → (h : B → C) → (made : List A) → (given : List B) → (i : ℕ) → (a : A) → (b : B)
    → map f made ≡ map h (take i given) → i < length given → b ≡ slice_index_or given i b → f a ≡ h b
    → map f (made ++ a ∷ []) ≡ map h (take (i + 1) given)
mapped-next f h made given i a b so_far within is same =
    let next : i + 1 ≡ suc i = omega arith in
    map-append f made (a ∷ []) ∙ ap (λ l. l ++ (f a ∷ [])) so_far ∙ ap (λ c. map h (take i given) ++ (c ∷ [])) same
    ∙ sym (map-append h (take i given) (b ∷ []))
    ∙ ap (λ c. map h (take i given ++ (c ∷ []))) is
    ∙ sym (ap (λ n. map h (take n given)) next ∙ ap (map h) (take-suc given i b within))

-- where the same is made of two lists, they are as long
pub mapped-length : {A B C : Type 0} → (f : A → C) → (h : B → C) → (xs : List A) → (ys : List B) → map f xs ≡ map h ys → length xs ≡ length ys
mapped-length f h xs ys same = sym (length-map xs f) ∙ ap length same ∙ length-map ys h

-- and it is made of what stands at a place of both
pub mapped-at : {A B C : Type 0} → (f : A → C) → (h : B → C) → (xs : List A) → (ys : List B) → (i : ℕ) → (a : A) → (b : B)
    → map f xs ≡ map h ys → i < length ys → a ≡ slice_index_or xs i a → b ≡ slice_index_or ys i b → f a ≡ h b
mapped-at f h xs ys i a b same there is_a is_b =
    let here : i < length xs = omega (arith, there, mapped-length f h xs ys same) in
    ap f is_a ∙ sym (get_or-map f xs i a (f a) here) ∙ ap (λ l. slice_index_or l i (f a)) same
    ∙ get_or-map h ys i b (f a) there ∙ ap h (sym is_b)
