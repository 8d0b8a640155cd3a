-- Lemmas on the least and the greatest of some numbers.
use Rattle.snippet_parts.proofs.Common.{common_steps, ◌≡◌, ℕ, ◌≤◌, min, max, List, [], ◌∷◌, ◌++◌, Some, refl, sym, ap, ◌∙◌, arith, unwrap_or, append_assoc}
use Rattle.snippet_parts.proofs.Common.{option_map_or, fold_push, All-nil, All-cons, least, greatest}
use Rattle.std.proofs.Common.{All}

-- one more number
pub least-push : (ns : List ℕ) (n : ℕ) → least (ns ++ n ∷ []) ≡ Some (option_map_or (λ m. min m n) (least ns) n)
least-push [] n = refl
least-push (k ∷ []) n = refl
least-push (k ∷ m ∷ ns) n = grind (arith, least-push (m ∷ ns) n)

-- the greatest, where one number more is added
pub greatest-push : (ns : List ℕ) (n : ℕ) → greatest (ns ++ n ∷ []) ≡ max (greatest ns) n
greatest-push ns n = fold_push (λ m k. max m k) 0 ns n

-- two more numbers
pub least-push_two : (ns : List ℕ) (n m : ℕ)
    → least (ns ++ n ∷ m ∷ []) ≡ Some (option_map_or (λ k. min k m) (Some (option_map_or (λ k. min k n) (least ns) n)) m)
least-push_two ns n m = grind (arith, common_steps, least-push (ns ++ n ∷ []) m, least-push ns n)

pub greatest-push_two : (ns : List ℕ) (n m : ℕ) → greatest (ns ++ n ∷ m ∷ []) ≡ max (max (greatest ns) n) m
greatest-push_two ns n m =
    ap greatest (sym (append_assoc ns (n ∷ []) (m ∷ []))) ∙ greatest-push (ns ++ n ∷ []) m ∙ ap (λ k. max k m) (greatest-push ns n)

-- no number is below the least
pub least_below : (ns : List ℕ) → All (λ n. unwrap_or (least ns) 0 ≤ n) ns
least_below [] = All-nil (λ n. 0 ≤ n)
least_below (n ∷ []) = All-cons (λ k. n ≤ k) n [] (omega arith) (All-nil (λ k. n ≤ k))
least_below (n ∷ m ∷ ns) = grind (arith, All-cons, unwrap_or, least_below (m ∷ ns))
