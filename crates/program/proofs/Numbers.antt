-- What is read of an argument that writes a number.
use Rattle.std.proofs.Common.{◌≡◌, ◌^◌, ◌&&◌, ℕ, Bool, true, false, List, [], ◌∷◌, Option, Some, None, length, refl}
use Rattle.std.specs.Prelude.{SomeIff, nat_lt}
use Rattle.std.specs.Char.{digit_value}
use Rattle.std.specs.List.{list_all}
use Rattle.std.specs.Str.Parse.{AllDigits}
use Rattle.std.proofs.lemmas.Bool.{lt-ltb, ltb-true}
use Rattle.clap.proofs.WalkLemmas.{both}
use Rattle.clap.specs.ValueTests.{is_numeral}
use Rattle.program.specs.Arguments.{Argument}
use Rattle.program.specs.Numbers.{IsNumber, number_in, number_of}

digits_pass : (ds : List ℕ) → AllDigits 10 ds → list_all (λ d. nat_lt (digit_value d) 10) ds ≡ true
digits_pass [] h = refl
digits_pass (d ∷ ds) h = rw (lt-ltb (digit_value d) 10 h.0) (digits_pass ds h.1)

digits_from : (ds : List ℕ) → list_all (λ d. nat_lt (digit_value d) 10) ds ≡ true → AllDigits 10 ds
digits_from [] e = tt
digits_from (d ∷ ds) e =
    let parts = both _ _ e in
    (ltb-true _ _ parts.0, digits_from ds parts.1)

abbrev is_number : Argument → Bool
is_number argument = is_numeral argument && nat_lt (number_in argument) (2 ^ 64)

-- what is read of an argument where its digits write a number that fits, and nothing else, is its number
pub number_read : (argument : Argument) (r : Option ℕ) → SomeIff r (IsNumber argument) (number_in argument) → r ≡ number_of argument
number_read argument (Some n) h =
    rw (lt-ltb 0 (length argument) h.0.0.0, digits_pass argument h.0.0.1, lt-ltb (number_in argument) (2 ^ 64) h.0.1, h.1) refl
number_read argument None h = go (is_number argument) refl
  where
    go : (b : Bool) → is_number argument ≡ b → None ≡ number_of argument
    go false t = rw t refl
    go true t =
        let outer = both _ _ t in
        let inner = both _ _ outer.0 in
        absurd (h ((ltb-true _ _ inner.0, digits_from argument inner.1), ltb-true _ _ outer.1))
