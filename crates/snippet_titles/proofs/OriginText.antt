-- The characters of a path and of the place after it.
use Rattle.snippet_titles.proofs.Common.{common_steps, ◌≡◌, ℕ, ◌<◌, Bool, true, false, Option, None, Some, List, [], ◌∷◌, ◌++◌, All, arith, decimal, IsUtf8}
use Rattle.snippet_titles.proofs.Common.{All-nil, All-cons, All-append, All-weaker, chars-append, chars-IsAscii, IsAscii-from_all, norm, OriginLocation}
use Rattle.snippet_titles.proofs.Common.{line_name, column_text, line_text, origin_text}
use Rattle.std.proofs.Common.{chars}
use Rattle.snippet_titles.proofs.DigitLemmas.{IsDigit, decimal-all}

-- a fact that holds of the digits, of a colon and of an L holds of each character after a path
module _ (P : ℕ → Type 0) (digit : (c : ℕ) → IsDigit c → P c) (colon : P 58) (letter : P 76) where
  decimal-each : (n : ℕ) → All P (decimal n)
  decimal-each n = All-weaker IsDigit P digit (decimal n) (decimal-all n)

  line_name-each : (anonymized : Bool) (line : ℕ) → All P (line_name anonymized line)
  line_name-each true line = All-cons P 76 (76 ∷ []) letter (All-cons P 76 [] letter (All-nil P))
  line_name-each false line = decimal-each line

  column_text-each : (column : Option ℕ) → All P (column_text column)
  column_text-each None = All-nil P
  column_text-each (Some column) = All-cons P 58 (decimal column) colon (decimal-each column)

  line_text-each : (anonymized : Bool) (line column : Option ℕ) → All P (line_text anonymized line column)
  line_text-each anonymized None column = All-nil P
  line_text-each anonymized (Some line) column = grind (arith, common_steps, All-append, All-cons, line_name-each, column_text-each)

  -- what holds of what a place is made of holds of its text
  pub place-each : (anonymized : Bool) (place : OriginLocation) → All P (line_text anonymized place.line place.column)
  place-each anonymized place = line_text-each anonymized place.line place.column

-- they are their own bytes
pub place-chars : (anonymized : Bool) (place : OriginLocation)
    → chars (line_text anonymized place.line place.column) ≡ line_text anonymized place.line place.column
place-chars anonymized place =
    chars-IsAscii (line_text anonymized place.line place.column) (IsAscii-from_all (line_text anonymized place.line place.column)
    (place-each (λ c. c < 128) (λ c is. omega (arith, is.1)) (omega arith) (omega arith) anonymized place))

-- a normalised path, and the place added to it
pub origin_text-added : (path before after : List ℕ) (anonymized : Bool) (place : OriginLocation) → IsUtf8 before → chars before ≡ norm (chars path)
    → after ≡ before ++ line_text anonymized place.line place.column → chars after ≡ origin_text anonymized path place
unfolding origin_text
origin_text-added path before after anonymized place utf8 shown added = grind (arith, common_steps, chars-append, place.line, place.column, place-chars)
