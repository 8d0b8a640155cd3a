-- The last border of characters of a text at a byte or before it.
use Rattle.snippet_lines.proofs.Common.{◌≡◌, ℕ, zero, suc, ◌<◌, ◌≤◌, ◌==◌, ◌&&◌, ◌||◌, ltb, true, if◌then◌else◌, List, length, sym, ap, ◌∙◌, arith, inl, inr}
use Rattle.snippet_lines.proofs.Common.{slice_index_or, IsCharBoundary, cases_Bool, cases_lt, nat_tests, begins_char, border_before, is_border}

-- where the byte at a place is this one, a border is told by it
told : (text : List ℕ) (k b : ℕ) → k ≤ length text → (k < length text → 128 ≤ b → 192 ≤ b)
    → (k == length text || ltb k (length text) && begins_char b) ≡ true
told text k b within begins = grind (arith, nat_tests)

-- and what is told so is one
begins-told : (text : List ℕ) (k b : ℕ) → (k == length text || ltb k (length text) && begins_char b) ≡ true
    → (k ≤ length text) × (k < length text → 128 ≤ b → 192 ≤ b)
begins-told text k b is = (grind (arith, nat_tests, is), λ below more. grind (arith, nat_tests, is, below, more))

border_true : (text : List ℕ) (k : ℕ) → IsCharBoundary text k → is_border text k ≡ true
border_true text k (within, begins) = told text k (slice_index_or text k 0) within begins

border_told : (text : List ℕ) (k : ℕ) → is_border text k ≡ true → IsCharBoundary text k
border_told text k is = begins-told text k (slice_index_or text k 0) is

-- a border after which there is none up to a byte is the last before that
pub last_border : (text : List ℕ) (byte at : ℕ) → at ≤ byte → IsCharBoundary text at
    → ((k : ℕ) → at < k → k ≤ byte → k ≤ length text → IsCharBoundary text k → ⊥) → at ≡ border_before text byte
last_border text zero at before here none = omega (arith, before)
last_border text (suc byte) at before here none =
    elim (cases_lt at (suc byte)) [
      | inl below ↦
          elim (cases_Bool (is_border text (suc byte))) [
            | inl other ↦
                let border : IsCharBoundary text (suc byte) = border_told text (suc byte) other in
                absurd (none (suc byte) below (omega arith) border.0 border)
            | inr other ↦
                last_border text byte at (omega (arith, below)) here (λ k after up_to within border. none k after (omega (arith, up_to)) within border)
                ∙ sym (ap (λ b. if b then suc byte else border_before text byte) other)
          ]
      | inr past ↦
          let same : at ≡ suc byte = omega (arith, before, past) in
          let is : is_border text (suc byte) ≡ true = ap (is_border text) (sym same) ∙ border_true text at here in
          same ∙ sym (ap (λ b. if b then suc byte else border_before text byte) is)
    ]
