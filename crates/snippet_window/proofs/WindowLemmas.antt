-- How the leading whitespace of a line is counted character by character.
use Rattle.snippet_window.proofs.Common.{common_steps, arith, ◌≡◌, ℕ, ◌+◌, ◌<◌, cond, true, false, List, Option, Some, None, length, drop, get_or, refl, sym}
use Rattle.snippet_window.proofs.Common.{ap, add_assoc, option_map, is_whitespace, at_drop_more, drop_all, leading_whitespace}
use Rattle.snippet_window.proofs.MeasureWords.{whitespace_width}

-- what stands from a character on
leading-drop : (cs : List ℕ) (n c : ℕ) → (n < length cs) × (c ≡ get_or cs n c)
    → leading_whitespace (drop n cs) ≡ cond (is_whitespace c) (option_map (λ columns. whitespace_width c + columns) (leading_whitespace (drop (n + 1) cs)))
    (Some 0)
leading-drop cs n c at = grind (arith, common_steps, at_drop_more, at.0, at.1)

-- two sums after another are one
twice : (a b : ℕ) (o : Option ℕ) → option_map (λ n. a + n) (option_map (λ n. b + n) o) ≡ option_map (λ n. (a + b) + n) o
twice a b None = refl
twice a b (Some n) = ap Some (sym (add_assoc a b n))

-- one more character of whitespace
pub leading-more : (cs : List ℕ) (n c columns more : ℕ) → (n < length cs) × (c ≡ get_or cs n c) → is_whitespace c ≡ true
    → more ≡ columns + whitespace_width c → option_map (λ k. columns + k) (leading_whitespace (drop n cs)) ≡ leading_whitespace cs
    → option_map (λ k. more + k) (leading_whitespace (drop (n + 1) cs)) ≡ leading_whitespace cs
leading-more cs n c columns more at blank is before = grind (arith, common_steps, twice, leading-drop)

-- a character that isn't whitespace ends it
pub leading-found : (cs : List ℕ) (n c columns : ℕ) → (n < length cs) × (c ≡ get_or cs n c) → is_whitespace c ≡ false
    → option_map (λ k. columns + k) (leading_whitespace (drop n cs)) ≡ leading_whitespace cs → Some columns ≡ leading_whitespace cs
leading-found cs n c columns at other before = grind (arith, common_steps, leading-drop)

-- a line of nothing else is blank
pub leading-blank : (cs : List ℕ) (n columns : ℕ) → length cs ≡ n → option_map (λ k. columns + k) (leading_whitespace (drop n cs)) ≡ leading_whitespace cs
    → None ≡ leading_whitespace cs
leading-blank cs n columns all before = grind (arith, common_steps, drop_all)
