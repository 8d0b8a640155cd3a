-- The characters of a text: how many there are once it is normalised, and whether there are any.
use Rattle.snippet_labels.proofs.Common.{◌≡◌, ◌==◌, false, sym, ap, ◌∙◌, ℕ, ◌<◌, ◌^◌, List, [], length, arith, inl, inr, IsUtf8}
use Rattle.snippet_labels.proofs.Common.{chars-nil, encodes-chars, length-norm, encode_utf8_all, nat_tests, cases_lt, nil_from_length, norm, chars_some}
use Rattle.std.specs.Str.{chars}
use Rattle.snippet_style.proofs.CellLemmas.{length-chars_le as length-chars}

-- a text that fits is short once it is normalised
pub norm_short : (bytes : List ℕ) → length bytes < 2 ^ 56 → length (norm (chars bytes)) < 2 ^ 58
norm_short bytes fits = omega (arith, length-norm (chars bytes), length-chars bytes)

-- a text has no character where it has no byte
pub is_empty-chars : (bytes : List ℕ) → IsUtf8 bytes → (length bytes == 0) ≡ (length (chars bytes) == 0)
is_empty-chars bytes utf8 =
    elim (cases_lt 0 (length bytes)) [
      | inl some ↦ above (length bytes) some ∙ sym (above (length (chars bytes)) (chars_some bytes utf8 some))
      | inr none ↦
          let empty : bytes ≡ [] = nil_from_length bytes (omega arith) in
          ap (λ (cs : List ℕ). length cs == 0) (empty ∙ sym (ap chars empty ∙ chars-nil))
    ]
  where
    above : (n : ℕ) → 0 < n → (n == 0) ≡ false
    above n some = grind (arith, nat_tests)
