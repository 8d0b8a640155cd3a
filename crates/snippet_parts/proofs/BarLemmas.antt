-- Which lines have bars.
use Rattle.snippet_parts.proofs.Common.{◌≡◌, ℕ, zero, suc, ◌+◌, ◌-◌, ◌<◌, ◌≤◌, Bool, true, false, ◌||◌, leb, inl, inr, sym, ◌∙◌, arith, list_any}
use Rattle.snippet_parts.proofs.Common.{range_with_len, cases_Bool, cases_lt, or_left, or_right, le-leb, lt-leb}

-- one of the lines from `from` up to, but not including, `to` passes a test
pub any-hit : (p : ℕ → Bool) (from n at : ℕ) → from ≤ at → at < from + n → p at ≡ true → list_any p (range_with_len from n) ≡ true
any-hit p from zero at low high hit = absurd (omega arith)
any-hit p from (suc n) at low high hit = grind (arith, or_right, or_left, any-hit p (from + 1) n)

-- none of fewer lines passes it
pub any-fewer : (p : ℕ → Bool) (i k m : ℕ) → i ≤ k → list_any p (range_with_len i (m - i)) ≡ false → list_any p (range_with_len k (m - k)) ≡ false
any-fewer p i k m le none =
    elim (cases_Bool (list_any p (range_with_len k (m - k)))) [
      | inr fewer ↦ fewer
      | inl some ↦ let hit = found p k (m - k) some in absurd (clash p i (m - i) hit.0 (omega (arith, hit.1.0)) (omega (arith, hit.1.0, hit.1.1)) hit.1.2 none)
    ]
  where
    found : (p : ℕ → Bool) (from n : ℕ) → list_any p (range_with_len from n) ≡ true → (at : ℕ) × ((from ≤ at) × (at < from + n) × (p at ≡ true))
    found p from zero some = cc
    found p from (suc n) some =
        elim (cases_Bool (p from)) [
          | inl here ↦ (from, (omega arith, omega arith, here))
          | inr past ↦ let more = found p (from + 1) n (there (p from) (list_any p (range_with_len (from + 1) n)) some past) in
              (more.0, (omega (arith, more.1.0), omega (arith, more.1.1), more.1.2))
        ]
      where
        there : (a b : Bool) → (a || b) ≡ true → a ≡ false → b ≡ true
        there true b any other = cc
        there false b any other = any

    clash : (p : ℕ → Bool) (from n at : ℕ) → from ≤ at → at < from + n → p at ≡ true → list_any p (range_with_len from n) ≡ false → ⊥
    clash p from n at low high hit none = let t : list_any p (range_with_len from n) ≡ true = any-hit p from n at low high hit in cc

-- lines before the last one that passes the test, and those after it
pub bars-found : (p : ℕ → Bool) (i at m k : ℕ) → i ≡ at + 1 → at < m → list_any p (range_with_len i (m - i)) ≡ false → p at ≡ true
    → leb k at ≡ list_any p (range_with_len k (m - k))
bars-found p i at m k is within none hit =
    elim (cases_lt at k) [
      | inl past ↦ lt-leb k at past ∙ sym (any-fewer p i k m (omega arith) none)
      | inr upto ↦ le-leb k at upto ∙ sym (any-hit p k (m - k) at upto (omega arith) hit)
    ]

-- where no line after the first passes the test, no line has a bar
pub bars_none : (p : ℕ → Bool) (i first m k : ℕ) → i ≤ first → first < k → list_any p (range_with_len i (m - i)) ≡ false
    → leb k first ≡ list_any p (range_with_len k (m - k))
bars_none p i first m k is past none = lt-leb k first past ∙ sym (any-fewer p i k m (omega arith) none)

pub bars_more : (p : ℕ → Bool) (i at m : ℕ) → i ≡ at + 1 → at < m → list_any p (range_with_len i (m - i)) ≡ false → p at ≡ false
    → list_any p (range_with_len at (m - at)) ≡ false
bars_more p i at m is within none trivial = grind (arith)
