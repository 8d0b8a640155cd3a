-- Lists that are made one after the other.
use Rattle.snippet_shown.proofs.Common.{◌≡◌, ◌∙◌, List, [], ◌∷◌, ◌++◌, map, sym, subst, AllZip, map-id}

-- one more pair
both_more : {X : Type 0} (P : X → X → Type 0) (xs ys : List X) (x y : X) → AllZip P xs ys → P x y → AllZip P (xs ++ x ∷ []) (ys ++ y ∷ [])
both_more P [] [] x y pairs last = (last, tt)
both_more P [] (b ∷ ys) x y pairs last = absurd pairs
both_more P (a ∷ xs) [] x y pairs last = absurd pairs
both_more P (a ∷ xs) (b ∷ ys) x y pairs last = (pairs.0, both_more P xs ys x y pairs.1 last)

pub zip_more : {X : Type 0} (P : X → X → Type 0) (xs ys new : List X) (x y : X) → new ≡ ys ++ y ∷ [] → AllZip P xs ys → P x y
    → AllZip P (xs ++ x ∷ []) new
zip_more P xs ys new x y is pairs last = subst (AllZip P (xs ++ x ∷ [])) (sym is) (both_more P xs ys x y pairs last)

-- all of them
pub zip_all : {X : Type 0} (P : X → X → Type 0) (yielded given ys : List X) → map (λ x. x) yielded ≡ given → AllZip P yielded ys → AllZip P given ys
zip_all P yielded given ys all pairs = subst (λ xs. AllZip P xs ys) (sym (map-id yielded) ∙ all) pairs
