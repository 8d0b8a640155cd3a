use Rattle.std.proofs.Common.{length, nat_lt, ◌≡◌, ◌∙◌, ℕ, ◌^◌, ◌<◌, ◌≤◌, Bool, true, false, true≢false}
use Rattle.std.proofs.Common.{List, [], ◌∷◌, Some, None, Result, Ok, Err, refl, sym, ap, arith, tests}
use Rattle.std.specs.Prelude.{◌&&◌, ◌==◌, cond, drop, if◌then◌else◌}
use Rattle.std.specs.Char.{digit_value, is_ascii_digit}
use Rattle.std.specs.List.{list_all}
use Rattle.std.specs.Result.{result_ok}
use Rattle.std.specs.Str.Parse.{AllDigits, IsNumeral, ParsesUnsigned, digits_value, without_leading_plus}
use Rattle.redraw_tools.specs.Cut.{is_numeral, number_of}
use Rattle.redraw_tools.proofs.cut.number_of.Goals as goal

both : (a b : Bool) → (a && b) ≡ true → (a ≡ true) × (b ≡ true)
both true b e = (refl, e)
both false b e = absurd (true≢false (sym e))

digit : (c : ℕ) → is_ascii_digit c ≡ true → (digit_value c < 10) × (48 ≤ c)
digit c e = (grind (arith, tests), grind (arith, tests))

all_digits : (ds : List ℕ) → list_all is_ascii_digit ds ≡ true → AllDigits 10 ds
all_digits [] e = tt
all_digits (c ∷ cs) e = let h = both _ _ e in ((digit c h.0).0, all_digits cs h.1)

numeral : (ds : List ℕ) → is_numeral ds ≡ true → IsNumeral 10 ds
numeral ds e =
    let h = both (nat_lt 0 (length ds)) (list_all is_ascii_digit ds) e in
    (grind (arith, tests), all_digits ds h.1)

plain : (ds : List ℕ) → is_numeral ds ≡ true → without_leading_plus ds ≡ ds
plain [] e = refl
plain (c ∷ cs) e =
    let all = both (nat_lt 0 (length (c ∷ cs))) (list_all is_ascii_digit (c ∷ cs)) e in
    let h = digit c (both (is_ascii_digit c) (list_all is_ascii_digit cs) all.1).0 in
    let other : (c == 43) ≡ false = grind (arith, tests) in
    ap (λ b. drop (cond b 1 0) (c ∷ cs)) other

-- what a test gives
if-so : (a b : Bool) (n : ℕ) → a ≡ true → b ≡ true → Some n ≡ (if a && b then Some n else None)
if-so a b n p q = sym (ap (λ t. if t && b then Some n else None) p ∙ ap (λ t. if t then Some n else None) q)

if-not : (a b : Bool) (n : ℕ) → a ≡ true → b ≡ false → None ≡ (if a && b then Some n else None)
if-not a b n p q = sym (ap (λ t. if t && b then Some n else None) p ∙ ap (λ t. if t then Some n else None) q)

parsed : {E : Type 0} (ds : List ℕ) (r : Result ℕ E) → is_numeral ds ≡ true → ParsesUnsigned 64 10 ds r → result_ok r ≡ number_of ds
parsed ds (Ok x) e h =
    let same = plain ds e in
    let value : x ≡ digits_value 10 ds = h.1 ∙ ap (digits_value 10) same in
    let less : digits_value 10 ds < 2 ^ 64 = omega (arith, h.0.1, ap (digits_value 10) same) in
    ap Some value ∙ if-so _ _ _ e (grind (arith, tests))
parsed ds (Err x) e h =
    let same = plain ds e in
    let more : ¬ (digits_value 10 ds < 2 ^ 64) = λ l. h (rw same (numeral ds e), omega (arith, l, ap (digits_value 10) same)) in
    if-not _ _ _ e (grind (arith, tests))

pub returns-then-is_numeral : goal.returns-then-is_numeral
returns-then-is_numeral c =
    record {
      value = c.ok.ensures.value
          ∙ parsed c.args.digits.now c.parse.result
          (ap is_numeral (sym c.as_bytes.ensures.value) ∙ sym c.is_numeral.ensures.value ∙ c.if-is_numeral.true)
          c.parse.ensures.value.0;
    }
