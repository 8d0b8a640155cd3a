-- A relation of two lists, place by place, as one of them is walked along.
use Rattle.std.proofs.lemmas.Grind.{common_steps}
use Rattle.std.proofs.Common.{◌≡◌, ℕ, ◌+◌, ◌<◌, List, [], ◌∷◌, ◌++◌, length, take, arith, take-suc}
use Rattle.std.specs.List.{AllZip, slice_index_or}

-- of one element more of each
all_push : {A B : Type 0} (R : A → B → Type 0) (xs : List A) (ys : List B) (x : A) (y : B)
    → AllZip R xs ys → R x y → AllZip R (xs ++ x ∷ []) (ys ++ y ∷ [])
all_push R [] [] x y h r = (r, tt)
all_push R [] (b ∷ ys) x y h r = absurd h
all_push R (a ∷ xs) [] x y h r = absurd h
all_push R (a ∷ xs) (b ∷ ys) x y h r = (h.0, all_push R xs ys x y h.1 r)

-- of a list as far as it has been walked along, and its next element
pub all-next : {A B : Type 0} (R : A → B → Type 0) (xs : List A) (ys zs : List B) (i : ℕ) (x : A) (y : B)
    → i < length xs → x ≡ slice_index_or xs i x → zs ≡ ys ++ y ∷ [] → AllZip R (take i xs) ys → R x y → AllZip R (take (i + 1) xs) zs
all-next {A} {B} R xs ys zs i x y within is grown h r = grind (arith, common_steps, take-suc, all_push)
