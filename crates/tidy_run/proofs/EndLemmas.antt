-- Where a final line feed is missing.
use Rattle.std.proofs.Common.{◌≡◌, ◌≢◌, ◌≤◌, ◌<◌, ◌⊎◌, ℕ, zero, suc, arith, refl, ◌&&◌, ◌==◌, not, nat_lt, Some, None, List, [], ◌∷◌, length, slice_index_or}
use Rattle.std.proofs.Common.{◌+◌, ◌-◌, inl, inr, subst, ap, ◌∙◌, if◌then◌else◌}
use Rattle.std.proofs.lemmas.Bool.{eq-eqb, lt-ltb, le-ltb}
use Rattle.std.proofs.Math.Bool.{and-false}
use Rattle.std.proofs.lemmas.Bool.Decides.{eqb_tells}
use Rattle.tidy_run.specs.Findings.{Finding}
use Rattle.tidy_run.specs.Rules.{first_from, missing_end_at}
use Rattle.tidy_run.proofs.FirstLemmas.{first-here, first-next, first-none}

-- what is found there
abbrev pub missing_end : ℕ → Finding
missing_end at = record { start = at; end = at; text = 10 ∷ [] }

-- nowhere but at the source's end
end-elsewhere : (source : List ℕ) → (i : ℕ) → i ≢ length source → missing_end_at source i ≡ None
end-elsewhere source i other =
    elim (eqb_tells i (length source)) [
      | inl (so, is) ↦ absurd (other is)
      | inr (so, is) ↦ ap (λ b. if b && nat_lt 0 i && not (slice_index_or source (i - 1) 0 == 10) then Some (missing_end i) else None) so
    ]

-- it is missing at the end of a source that isn't empty and doesn't end with a line feed
end_here : (source : List ℕ) → 0 < length source → slice_index_or source (length source - 1) 0 ≢ 10
    → missing_end_at source (length source) ≡ Some (missing_end (length source))
end_here source some other =
    elim (eqb_tells (slice_index_or source (length source - 1) 0) 10) [
      | inl (so, is) ↦ absurd (other is)
      | inr (so, is) ↦
          ap (λ b. if b && nat_lt 0 (length source) && not (slice_index_or source (length source - 1) 0 == 10) then Some
          (missing_end (length source)) else None) (eq-eqb (length source) (length source) refl)
          ∙ ap (λ b. if b && not (slice_index_or source (length source - 1) 0 == 10) then Some (missing_end (length source)) else None)
          (lt-ltb 0 (length source) some)
          ∙ ap (λ b. if not b then Some (missing_end (length source)) else None) so
    ]

-- from a byte before the end on
end_after : (source : List ℕ) → (k : ℕ) → k ≤ length source
    → missing_end_at source (length source) ≡ Some (missing_end (length source))
    → first_from missing_end_at source (length source - k) ≡ Some (missing_end (length source))
end_after source zero within here =
    let all : length source - 0 ≡ length source = omega arith in
    ap (first_from missing_end_at source) all
    ∙ first-here missing_end_at source (length source) (missing_end (length source)) (omega arith) here
end_after source (suc k) within here =
    let next : length source - suc k + 1 ≡ length source - k = omega (arith, within) in
    first-next missing_end_at source (length source - suc k) (omega arith)
    (end-elsewhere source (length source - suc k) (λ is. absurd (omega (arith, is, within))))
    ∙ ap (first_from missing_end_at source) next
    ∙ end_after source k (omega (arith, within)) here

-- from any byte up to the end on, where it is missing
pub end-found : (source : List ℕ) → (from : ℕ) → from ≤ length source → 0 < length source
    → slice_index_or source (length source - 1) 0 ≢ 10 → first_from missing_end_at source from ≡ Some (missing_end (length source))
end-found source from within some other =
    let back : length source - (length source - from) ≡ from = omega (arith, within) in
    subst (λ i. first_from missing_end_at source i ≡ Some (missing_end (length source))) back
    (end_after source (length source - from) (omega arith) (end_here source some other))

-- after the end there is none
pub end-past : (source : List ℕ) → (from : ℕ) → length source < from → first_from missing_end_at source from ≡ None
end-past source from past =
    first-none missing_end_at source from (λ i after. end-elsewhere source i (λ is. absurd (omega (arith, is, past, after))))

-- nor anywhere in a source that is empty or ends with a line feed
end_none : (source : List ℕ) → (i : ℕ) → (length source ≡ 0) ⊎ (slice_index_or source (length source - 1) 0 ≡ 10)
    → missing_end_at source i ≡ None
end_none source i ended =
    elim (eqb_tells i (length source)) [
      | inl (so, is) ↦ elim ended [
        | inl empty ↦
            ap (λ b. if b && nat_lt 0 i && not (slice_index_or source (i - 1) 0 == 10) then Some (missing_end i) else None) so
            ∙ ap (λ b. if b && not (slice_index_or source (i - 1) 0 == 10) then Some (missing_end i) else None) (le-ltb 0 i (omega (arith, is, empty)))
        | inr last ↦
            ap (λ b. if i == length source && nat_lt 0 i && not b then Some (missing_end i) else None)
            (eq-eqb (slice_index_or source (i - 1) 0) 10 (ap (λ n. slice_index_or source (n - 1) 0) is ∙ last))
            ∙ ap (λ b. if b then Some (missing_end i) else None) (and-false (i == length source && nat_lt 0 i))
      ]
      | inr (so, is) ↦ end-elsewhere source i is
    ]

-- a source that is empty or ends in a line feed misses none at its end
pub end-ended : (source : List ℕ) → (from : ℕ) → (length source ≡ 0) ⊎ (slice_index_or source (length source - 1) 0 ≡ 10)
    → first_from missing_end_at source from ≡ None
end-ended source from ended = first-none missing_end_at source from (λ i after. end_none source i ended)
