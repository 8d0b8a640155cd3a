-- What a number is written with.
use Rattle.snippet_titles.proofs.Common.{◌≡◌, ℕ, zero, suc, ◌/◌, ◌%◌, ◌≤◌, ◌==◌, Bool, true, false, List, [], ◌∷◌, All, refl}
use Rattle.snippet_titles.proofs.Common.{arith, nat_tests, All-nil, All-cons, decimal, digits_onto, digit_glyph}
use Rattle.std.specs.Fmt.{digits}

-- an ASCII digit
abbrev pub IsDigit : ℕ → Type 0
IsDigit c = (48 ≤ c) × (c ≤ 57)

digit_glyph-digit : (n : ℕ) → IsDigit (digit_glyph false (n % 10))
digit_glyph-digit n = grind (arith, nat_tests)

-- one more digit before others, and those before it, where there are any
digit-more : (k n : ℕ) (others : List ℕ) (done : Bool) → (n / 10 == 0) ≡ done → All IsDigit (digit_glyph false (n % 10) ∷ others)
    → All IsDigit (digits_onto k 10 false (n / 10) (digit_glyph false (n % 10) ∷ others)) → All IsDigit (digits_onto (suc k) 10 false n others)
digit-more k n others true is here all = rw is here
digit-more k n others false is here all = rw is all

-- the digits of a number, before others
digits_onto-all : (k n : ℕ) (others : List ℕ) → All IsDigit others → All IsDigit (digits_onto k 10 false n others)
digits_onto-all zero n others all = all
digits_onto-all (suc k) n others all =
    let here : All IsDigit (digit_glyph false (n % 10) ∷ others) = All-cons IsDigit (digit_glyph false (n % 10)) others (digit_glyph-digit n) all in
    digit-more k n others (n / 10 == 0) refl here (digits_onto-all k (n / 10) (digit_glyph false (n % 10) ∷ others) here)

-- a number is written with digits
pub decimal-all : (n : ℕ) → All IsDigit (decimal n)
unfolding digits
decimal-all n = digits_onto-all 64 n [] (All-nil IsDigit)
