-- The texts of line numbers.
use Rattle.snippet_lines.proofs.Common.{common_steps, inl, inr, ◌≡◌, ℕ, zero, suc, ◌-◌, ◌+◌, ◌^◌, ◌<◌, ◌≤◌, ◌/◌, ◌%◌, List, [], ◌∷◌, ◌++◌, length, replicate}
use Rattle.snippet_lines.proofs.Common.{refl, ap, All, ◌∙◌, arith, false, repeat, decimal, nat_tests, cases_lt, length-replicate, length_push, decimal_digit}
use Rattle.snippet_lines.proofs.Common.{decimal_step, decimal_by_steps, IsAscii-decimal, All-append, All-cons, All-nil, All-push, All-replicate, chars-IsAscii}
use Rattle.snippet_lines.proofs.Common.{IsAscii-append, IsAscii-from_all, IsAscii, is_listed, number_width, shown_number, LineNumbers, Shown, Anonymized}
use Rattle.snippet_lines.proofs.Common.{Hidden}
use Rattle.std.proofs.Common.{chars}

-- a text of one space, repeated
pub repeat-one_space : (n : ℕ) → repeat {A = ℕ} n (32 ∷ []) ≡ replicate n 32
repeat-one_space zero = refl
repeat-one_space (suc n) = ap (λ t. 32 ∷ t) (repeat-one_space n)

-- a number of one digit, and one more digit
pub length-decimal_last : (n : ℕ) → n < 10 → n < 2 ^ 64 → length (decimal n) ≡ 1
length-decimal_last n one fits = ap length (decimal_digit n one)

-- a number of two digits or more has one digit more than its tenth
pub length-decimal_more : (n : ℕ) → 10 ≤ n → n < 2 ^ 64 → length (decimal n) ≡ length (decimal (n / 10)) + 1
length-decimal_more n more fits = ap length (decimal_step n more fits) ∙ length_push (decimal (n / 10)) (48 + n % 10)

-- a digit is no listed character
digit_unlisted : (d : ℕ) → d < 10 → is_listed (48 + d) ≡ false
digit_unlisted d small = grind (arith, nat_tests)

decimal_unlisted : (n : ℕ) → n < 2 ^ 64 → All (λ c. is_listed c ≡ false) (decimal n)
decimal_unlisted n fits =
    let P : ℕ → Type 0 = λ c. is_listed c ≡ false in
    decimal_by_steps (λ _ ds. All P ds) (λ m one. All-cons P (48 + m) [] (digit_unlisted m one) (All-nil P)) (λ m ds more so_far.
    All-push P ds (48 + m % 10) so_far (digit_unlisted (m % 10) (omega arith))) n fits

-- what the gutter shows holds no listed character
pub shown_number_unlisted : (numbers : LineNumbers) (gutter number : ℕ) → number < 2 ^ 64 → All (λ c. is_listed c ≡ false) (shown_number numbers gutter number)
shown_number_unlisted Shown gutter number fits =
    let P : ℕ → Type 0 = λ c. is_listed c ≡ false in
    All-append P (replicate (gutter - length (decimal number)) 32) (decimal number) (All-replicate P (gutter - length (decimal number)) 32 refl)
    (decimal_unlisted number fits)
shown_number_unlisted Anonymized gutter number fits = grind (arith, common_steps, All-append, All-replicate, All-cons, All-nil)
shown_number_unlisted Hidden gutter number fits = grind (arith, common_steps, All-replicate)

spaces_ascii : (n : ℕ) → IsAscii (replicate n 32)
spaces_ascii n = let P : ℕ → Type 0 = λ b. b < 128 in IsAscii-from_all (replicate n 32) (All-replicate P n 32 (omega arith))

-- its bytes are its characters
shown_number_ascii : (numbers : LineNumbers) (gutter number : ℕ) → number < 2 ^ 64 → IsAscii (shown_number numbers gutter number)
shown_number_ascii Shown gutter number fits = grind (arith, IsAscii-append, spaces_ascii, IsAscii-decimal)
shown_number_ascii Anonymized gutter number fits = grind (arith, IsAscii-append, spaces_ascii, IsAscii-from_all, All-cons, All-nil)
shown_number_ascii Hidden gutter number fits = spaces_ascii gutter

-- the characters of a shown number are its bytes
pub chars-shown_number : (numbers : LineNumbers) (gutter number : ℕ) → number < 2 ^ 64
    → chars (shown_number numbers gutter number) ≡ shown_number numbers gutter number
chars-shown_number numbers gutter number fits =
    chars-IsAscii (shown_number numbers gutter number) (shown_number_ascii numbers gutter number fits)

-- a smaller number has no more digits
pub length-decimal_monotone : (m n : ℕ) → m ≤ n → n < 2 ^ 64 → length (decimal m) ≤ length (decimal n)
length-decimal_monotone m n less fits =
    let P : ℕ → List ℕ → Type 0 = λ large ds. large < 2 ^ 64 → (small : ℕ) → small ≤ large → length (decimal small) ≤ length ds in
    let last : (large : ℕ) → large < 10 → P large ((48 + large) ∷ []) = λ large one _ small below.
    omega (arith, length-decimal_last small (omega arith) (omega arith)) in
    let more : (large : ℕ) (ds : List ℕ) → 10 ≤ large → P (large / 10) ds
    → P large (ds ++ ((48 + large % 10) ∷ [])) = λ large ds many shorter large_fits small below.
    let long : length (ds ++ ((48 + large % 10) ∷ [])) ≡ length ds + 1 = length_push ds (48 + large % 10) in
    elim (cases_lt small 10) [
      | inl one ↦ omega (arith, length-decimal_last small one (omega arith))
      | inr digits ↦ omega (arith, length-decimal_more small digits (omega arith), shorter (omega arith) (small / 10) (omega arith))
    ] in
    decimal_by_steps P last more n fits fits m less

-- what fits the gutter fills it
pub length-shown_number : (numbers : LineNumbers) (gutter number : ℕ) → number_width numbers number ≤ gutter
    → length (shown_number numbers gutter number) ≡ gutter
length-shown_number Shown gutter number fits = grind (arith, common_steps)
length-shown_number Anonymized gutter number fits = grind (arith, common_steps)
length-shown_number Hidden gutter number fits = length-replicate {A = ℕ} gutter 32

-- a smaller number needs no more cells
pub number_width_monotone : (numbers : LineNumbers) (m n : ℕ) → m ≤ n → n < 2 ^ 64 → number_width numbers m ≤ number_width numbers n
number_width_monotone Shown m n less fits = length-decimal_monotone m n less fits
number_width_monotone Anonymized m n less fits = omega arith
number_width_monotone Hidden m n less fits = omega arith
