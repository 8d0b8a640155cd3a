-- What holds of the items of two lists, place by place.
use Rattle.std.proofs.Common.{◌≡◌, ℕ, suc, ◌+◌, ◌<◌, List, [], ◌∷◌, ◌++◌, length, take, get_or, sym, ap, subst, ◌∙◌, arith}
use Rattle.std.specs.List.{AllZip}
use Rattle.std.proofs.Math.Seq.{take-suc}
use Rattle.std.proofs.lemmas.List.Elements.{AllZip-push}

-- what follows from what holds of two items holds of all of them
pub AllZip-weaker : {A B : Type 0} (P Q : A → B → Type 0) → ((x : A) (y : B) → P x y → Q x y) → (xs : List A) (ys : List B) → AllZip P xs ys → AllZip Q xs ys
AllZip-weaker P Q weaker [] [] holds = tt
AllZip-weaker P Q weaker [] (y ∷ ys) holds = absurd holds
AllZip-weaker P Q weaker (x ∷ xs) [] holds = absurd holds
AllZip-weaker P Q weaker (x ∷ xs) (y ∷ ys) holds =
    (weaker x y holds.0, AllZip-weaker P Q weaker xs ys holds.1)

-- one more of both: the next item of the first list, and an item after the second
pub all_zip_more : {X : Type 0} (P : X → X → Type 0) (xs : List X) (i : ℕ) (ys new : List X) (x y : X) → i < length xs → new ≡ ys ++ y ∷ []
    → AllZip P (take i xs) ys → x ≡ get_or xs i x → P x y → AllZip P (take (i + 1) xs) new
all_zip_more P xs i ys new x y within pushed before is last =
    let more : take (i + 1) xs ≡ take i xs ++ get_or xs i x ∷ [] = ap (λ n. take n xs) (let e : i + 1 ≡ suc i = omega arith in e) ∙ take-suc xs i x within in
    subst (λ zs. AllZip P zs new) (sym more) (subst (λ zs. AllZip P (take i xs ++ get_or xs i x ∷ []) zs) (sym pushed)
    (AllZip-push P (take i xs) ys (get_or xs i x) y before (subst (λ z. P z y) is last)))

-- one more item on each side
pub AllZip-last : {A B : Type 0} (P : A → B → Type 0) (xs : List A) (ys : List B) (x : A) (y : B) → AllZip P xs ys → P x y
    → AllZip P (xs ++ x ∷ []) (ys ++ y ∷ [])
AllZip-last P [] [] x y before last = (last, tt)
AllZip-last P [] (z ∷ ys) x y before last = absurd before
AllZip-last P (z ∷ xs) [] x y before last = absurd before
AllZip-last P (v ∷ xs) (z ∷ ys) x y before last = (before.0, AllZip-last P xs ys x y before.1 last)
