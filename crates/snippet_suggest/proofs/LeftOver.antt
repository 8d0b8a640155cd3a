-- What stands beside a removed line: its number, what a row that was there held, and the end of a long number.
use Rattle.std.proofs.lemmas.Grind.{common_steps}
use Rattle.snippet_suggest.proofs.Common.{◌≡◌, ◌⊎◌, true, ℕ, ◌-◌, ◌+◌, ◌^◌, ◌<◌, ◌≤◌, ◌%◌, List, [], All, length, replicate, refl, arith, inl, inr, decimal}
use Rattle.snippet_suggest.proofs.Common.{decimal_by_steps, length-append, length-replicate, All-append, All-cons, All-nil, All-push, All-replicate, DecorStyle}
use Rattle.snippet_suggest.proofs.Common.{set_right, shown_number, LineNumbers, Shown, Anonymized, Hidden, IsMarkOrSpace, IsOfNumber, is_stroke}

-- what stands left of the sign of a line that is removed, and what may stand after its text
abbrev pub IsBeforeSign : LineNumbers → DecorStyle → ℕ → Type 0
IsBeforeSign numbers decor c = (is_stroke decor c ≡ true) ⊎ IsOfNumber numbers c

abbrev pub IsLeftOver : DecorStyle → ℕ → Type 0
IsLeftOver decor c = IsMarkOrSpace decor c ⊎ ((48 ≤ c) × (c ≤ 57))

-- a number holds digits and spaces
decimal_holds : (P : ℕ → Type 0) → ((d : ℕ) → d < 10 → P (48 + d)) → (n : ℕ) → n < 2 ^ 64 → All P (decimal n)
decimal_holds P digit n fits =
    decimal_by_steps (λ _ ds. All P ds) (λ m one. All-cons P (48 + m) [] (digit m one) (All-nil P)) (λ m ds more so_far.
    All-push P ds (48 + m % 10) so_far (digit (m % 10) (omega arith))) n fits

right_holds : (P : ℕ → Type 0) → P 32 → (gutter : ℕ) (cs : List ℕ) → All P cs → All P (set_right gutter cs)
right_holds P space gutter cs holds =
    All-append P (replicate (gutter - length cs) 32) cs (All-replicate P (gutter - length cs) 32 space) holds

-- what stands after the gutter and the sign's two cells, if anything does, may be left over
abbrev pub StaysLeft : DecorStyle → ℕ → List ℕ → Type 0
StaysLeft decor gutter cs = All (IsLeftOver decor) cs ⊎ (length cs ≤ gutter + 3)

-- a number may be too long for the gutter, but not what stands in its place
pub number_left : (decor : DecorStyle) (numbers : LineNumbers) (gutter number : ℕ) → number < 2 ^ 64
    → StaysLeft decor gutter (shown_number numbers gutter number)
number_left decor Shown gutter number fits =
    let P : ℕ → Type 0 = IsLeftOver decor in
    let digit : (d : ℕ) → d < 10 → P (48 + d) = λ d small. inr (omega arith, omega arith) in
    inl (right_holds P (inl (inl refl)) gutter (decimal number) (decimal_holds P digit number fits))
number_left decor Anonymized gutter number fits = grind (arith, length-append, length-replicate)
number_left decor Hidden gutter number fits = inr (omega (arith, length-replicate {A = ℕ} gutter 32))

-- the characters of a number are such as stand before a sign
pub number_before : (decor : DecorStyle) (numbers : LineNumbers) (gutter number : ℕ) → number < 2 ^ 64
    → All (IsBeforeSign numbers decor) (shown_number numbers gutter number)
number_before decor Shown gutter number fits =
    let P : ℕ → Type 0 = IsBeforeSign Shown decor in
    let digit : (d : ℕ) → d < 10 → P (48 + d) = λ d small. inr (omega arith, omega arith) in
    right_holds P (inl refl) gutter (decimal number) (decimal_holds P digit number fits)
number_before decor Anonymized gutter number fits = grind (arith, common_steps, right_holds, All-cons, All-nil)
number_before decor Hidden gutter number fits = grind (arith, common_steps, All-replicate)
