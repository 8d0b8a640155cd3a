-- Things in the places of others: what goes over from the ones to the others.
use Rattle.std.proofs.Common.{arith}
use Rattle.annotate_snippets.proofs.Common.{◌≡◌, ℕ, ◌+◌, zero, suc, Bool, true, false, cond, List, [], ◌∷◌, ◌++◌, Option, None, Some, All}
use Rattle.annotate_snippets.proofs.Common.{length, refl, ap, ap₂, subst, take, All-cons, All-head, All-nil, All-tail, AllZip, filter, flat_map, slice_get}
use Rattle.annotate_snippets.proofs.Common.{option_to_list, some_same, SameOption, zip_append, faults_from, RenderError}

-- ---- lists made of them

-- a list made of each stays, if that of each does
pub flat-same : {A B : Type 0} (P : A → A → Type 0) (f : A → List B) → ((x y : A) → P x y → f y ≡ f x) → (xs ys : List A) → AllZip P xs ys
    → flat_map f ys ≡ flat_map f xs
flat-same P f same [] [] pairs = refl
flat-same P f same [] (y ∷ ys) pairs = absurd pairs
flat-same P f same (x ∷ xs) [] pairs = absurd pairs
flat-same {B = B} P f same (x ∷ xs) (y ∷ ys) pairs = ap₂ (λ (a b : List B). a ++ b) (same x y pairs.0) (flat-same P f same xs ys pairs.1)

pub option-same : {A B : Type 0} (P : A → A → Type 0) (f : A → List B) → ((x y : A) → P x y → f y ≡ f x) → (a b : Option A) → SameOption P a b
    → flat_map f (option_to_list b) ≡ flat_map f (option_to_list a)
option-same P f same None None is = refl
option-same P f same None (Some y) is = cc
option-same P f same (Some x) None is = absurd is
option-same {B = B} P f same (Some x) (Some y) is = ap (λ (t : List B). t ++ []) (same x y is)

-- their parts stand in the places of parts, if those of each do
pub flat-zip : {A B : Type 0} (P : A → A → Type 0) (Q : B → B → Type 0) (f : A → List B) → ((x y : A) → P x y → AllZip Q (f x) (f y)) → (xs ys : List A)
    → AllZip P xs ys → AllZip Q (flat_map f xs) (flat_map f ys)
flat-zip P Q f each [] [] pairs = tt
flat-zip P Q f each [] (y ∷ ys) pairs = absurd pairs
flat-zip P Q f each (x ∷ xs) [] pairs = absurd pairs
flat-zip P Q f each (x ∷ xs) (y ∷ ys) pairs = zip_append Q (f x) (flat_map f xs) (f y) (flat_map f ys) (each x y pairs.0) (flat-zip P Q f each xs ys pairs.1)

pub option-zip : {A B : Type 0} (P : A → A → Type 0) (Q : B → B → Type 0) (f : A → List B) → ((x y : A) → P x y → AllZip Q (f x) (f y)) → (a b : Option A)
    → SameOption P a b → AllZip Q (flat_map f (option_to_list a)) (flat_map f (option_to_list b))
option-zip P Q f each None None is = tt
option-zip P Q f each None (Some y) is = cc
option-zip P Q f each (Some x) None is = absurd is
option-zip P Q f each (Some x) (Some y) is = zip_append Q (f x) [] (f y) [] (each x y is) tt

-- things that have the faults of those in whose places they stand have the same faults together
pub faults-same : {X : Type 0} (P : X → X → Type 0) (f g : ℕ → X → List RenderError) → ((n : ℕ) (x y : X) → P x y → g n y ≡ f n x) → (n : ℕ)
    → (xs ys : List X) → AllZip P xs ys → faults_from g n ys ≡ faults_from f n xs
faults-same P f g same n [] [] pairs = refl
faults-same P f g same n [] (y ∷ ys) pairs = absurd pairs
faults-same P f g same n (x ∷ xs) [] pairs = absurd pairs
faults-same P f g same n (x ∷ xs) (y ∷ ys) pairs = ap₂ (λ (a b : List RenderError). a ++ b) (same n x y pairs.0) (faults-same P f g same (n + 1) xs ys pairs.1)

-- ---- what holds of them

-- what holds of the first of each pair, and goes over to the second, holds of all of these
pub all-over : {A : Type 0} (R : A → A → Type 0) (P : A → Type 0) → ((x y : A) → R x y → P x → P y) → (xs ys : List A) → AllZip R xs ys → All P xs
    → All P ys
all-over R P over [] [] pairs all = All-nil P
all-over R P over [] (y ∷ ys) pairs all = absurd pairs
all-over R P over (x ∷ xs) [] pairs all = absurd pairs
all-over R P over (x ∷ xs) (y ∷ ys) pairs all = All-cons P y ys (over x y pairs.0 (All-head P x xs all)) (all-over R P over xs ys pairs.1 (All-tail P x xs all))

-- what holds of the second of each pair holds of all of them
pub all-second : {X Y : Type 0} (P : X → Y → Type 0) (Q : Y → Type 0) → ((x : X) (y : Y) → P x y → Q y) → (xs : List X) (ys : List Y) → AllZip P xs ys
    → All Q ys
all-second P Q each [] [] pairs = All-nil Q
all-second P Q each [] (y ∷ ys) pairs = absurd pairs
all-second P Q each (x ∷ xs) [] pairs = absurd pairs
all-second P Q each (x ∷ xs) (y ∷ ys) pairs = All-cons Q y ys (each x y pairs.0) (all-second P Q each xs ys pairs.1)

-- what stands in the place of a thing that stands in the place of another
pub compose : {A : Type 0} (P Q R : A → A → Type 0) → ((x y z : A) → P x y → Q y z → R x z) → (xs ys zs : List A) → AllZip P xs ys → AllZip Q ys zs
    → AllZip R xs zs
compose P Q R step [] [] [] first second = tt
compose P Q R step [] [] (z ∷ zs) first second = absurd second
compose P Q R step [] (y ∷ ys) zs first second = absurd first
compose P Q R step (x ∷ xs) [] zs first second = absurd first
compose P Q R step (x ∷ xs) (y ∷ ys) [] first second = absurd second
compose P Q R step (x ∷ xs) (y ∷ ys) (z ∷ zs) first second = (step x y z first.0 second.0, compose P Q R step xs ys zs first.1 second.1)

-- ---- which of them there are

-- there are as many
pub zip-length : {X : Type 0} (P : X → X → Type 0) (xs ys : List X) → AllZip P xs ys → length ys ≡ length xs
zip-length P [] [] pairs = refl
zip-length P [] (y ∷ ys) pairs = absurd pairs
zip-length P (x ∷ xs) [] pairs = absurd pairs
zip-length P (x ∷ xs) (y ∷ ys) pairs = ap suc (zip-length P xs ys pairs.1)

-- the first of each
pub first-pair : {A : Type 0} (P : A → A → Type 0) (xs ys : List A) → AllZip P xs ys → AllZip P (take 1 xs) (take 1 ys)
first-pair P [] [] pairs = tt
first-pair P [] (y ∷ ys) pairs = absurd pairs
first-pair P (x ∷ xs) [] pairs = absurd pairs
first-pair P (x ∷ xs) (y ∷ ys) pairs = (pairs.0, tt)

-- what stands in the place of something
pub record Paired {X : Type 0} (P : X → X → Type 0) (ys : List X) (i : ℕ) (x : X) : Type 0 where
  pub other : X
  pub there : slice_get ys i ≡ Some other
  pub pair : P x other

pub paired : {X : Type 0} (P : X → X → Type 0) (xs ys : List X) → AllZip P xs ys → (i : ℕ) (x : X) → slice_get xs i ≡ Some x → Paired P ys i x
paired P [] ys pairs i x there = cc
paired P (a ∷ xs) [] pairs i x there = absurd pairs
paired P (a ∷ xs) (b ∷ ys) pairs zero x there = record { other = b; there = refl; pair = subst (λ z. P z b) (some_same there) pairs.0 }
paired P (a ∷ xs) (b ∷ ys) pairs (suc i) x there =
    let rest : Paired P ys i x = paired P xs ys pairs.1 i x there in record { other = rest.other; there = rest.there; pair = rest.pair }

-- those that pass a test stand in the places of those that do
chosen-both : {X : Type 0} (P : X → X → Type 0) (passes : Bool) (x y : X) (xs ys : List X) → P x y → AllZip P xs ys
    → AllZip P (cond passes (x ∷ xs) xs) (cond passes (y ∷ ys) ys)
chosen-both P true x y xs ys pair pairs = (pair, pairs)
chosen-both P false x y xs ys pair pairs = pairs

pub chosen : {X : Type 0} (P : X → X → Type 0) (p : X → Bool) → ((x y : X) → P x y → p y ≡ p x) → (xs ys : List X) → AllZip P xs ys
    → AllZip P (filter p xs) (filter p ys)
chosen P p same [] [] pairs = tt
chosen P p same [] (y ∷ ys) pairs = absurd pairs
chosen P p same (x ∷ xs) [] pairs = absurd pairs
chosen P p same (x ∷ xs) (y ∷ ys) pairs = grind (arith, chosen P p same xs ys pairs.1, chosen-both, pairs.0, pairs.1)
