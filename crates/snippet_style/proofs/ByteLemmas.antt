-- What holds of a list that was looked at in parts.
use Rattle.std.proofs.Common.{◌≡◌, ℕ, ◌+◌, ◌-◌, ◌≤◌, ◌∙◌, List, ◌++◌, All, ap, arith, drop, drop-drop, length, length-drop, subst, sym, take}
use Rattle.std.proofs.lemmas.List.{length-take-le, take-append-drop, take_all}
use Rattle.std.proofs.lemmas.List.Elements.{All-append, All-drop}
use Rattle.std.proofs.Math.Seq.{take-append-add}

-- what holds of the first elements of a list, and of some after them, holds of so many more of the first
pub All-further : {X : Type 0} (P : X → Type 0) (xs : List X) (a n : ℕ) → a ≤ length xs → All P (take a xs) → All P (take n (drop a xs))
    → All P (take (a + n) xs)
All-further P xs a n within first second =
    let parts : take (a + n) xs ≡ take a xs ++ take n (drop a xs) = ap (λ l. take (a + n) l) (sym (take-append-drop a xs))
    ∙ ap (λ m. take (m + n) (take a xs ++ drop a xs)) (sym (length-take-le a xs within)) ∙ take-append-add (take a xs) (drop a xs) n in
    subst (λ l. All P l) (sym parts) (All-append P (take a xs) (take n (drop a xs)) first second)

-- what holds of the first elements of a list, and of all from one of these or the next on, holds of all
pub All-overlapping : {X : Type 0} (P : X → Type 0) (xs : List X) (at from n : ℕ) → from ≤ at → length xs ≤ from + n → All P (take at xs)
    → All P (take n (drop from xs)) → All P xs
All-overlapping P xs at from n low all front back =
    let whole : take n (drop from xs) ≡ drop from xs = take_all n (drop from xs) (omega (arith, length-drop from xs, all)) in
    let rest : drop (at - from) (drop from xs) ≡ drop at xs = drop-drop (at - from) from xs
    ∙ ap (λ k. drop k xs) {x = from + (at - from)} {y = at} (omega arith) in
    let end : All P (drop from xs) = subst (λ l. All P l) whole back in
    subst (λ l. All P l) (take-append-drop at xs)
    (All-append P (take at xs) (drop at xs) front (subst (λ l. All P l) rest (All-drop P (at - from) (drop from xs) end)))
