-- The order of pairs of numbers: by the first and then by the second.
use Rattle.snippet_splice.proofs.Common.{◌≡◌, ℕ, Bool, ◌&&◌, ◌||◌, eqb, ltb, arith, nat_tests, IsStrictWeakOrder, is_lt, nat_cmp, ordering_then, rules}

-- whether a pair of numbers comes before another: by the first, and then by the second
abbrev pub pair_lt : ℕ → ℕ → ℕ → ℕ → Bool
pair_lt a b c d = ltb a c || (eqb a c && ltb b d)

-- the code's comparison of two pairs is that one
pub pair-tells : (a b c d : ℕ) → is_lt (ordering_then (nat_cmp a c) (nat_cmp b d)) ≡ pair_lt a b c d
pair-tells a b c d = grind (arith, nat_tests)

-- pairs by their first and then their second number are ordered
pub pair-order : {X : Type 0} (f g : X → ℕ) → IsStrictWeakOrder (λ x y. pair_lt (f x) (g x) (f y) (g y))
pair-order f g = search rules
