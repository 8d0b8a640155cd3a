-- Where a tab stands.
use Rattle.std.proofs.Common.{◌≡◌, ◌≢◌, ℕ, arith, ◌+◌, ◌<◌, ◌≤◌, Some, None, List, length, slice_index_or, codes, ap, inl, inr, if◌then◌else◌}
use Rattle.std.proofs.lemmas.List.{get_or_past}
use Rattle.std.proofs.lemmas.Bool.{eq-eqb}
use Rattle.std.proofs.lemmas.Bool.Decides.{eqb_tells}
use Rattle.std.proofs.lemmas.Str.{IsCharBoundary-before_ascii, IsCharBoundary-after_ascii}
use Rattle.std.specs.Str.{IsUtf8}
use Rattle.tidy_run.specs.Findings.{Finding, IsFinding}
use Rattle.tidy_run.specs.Rules.{first_from, tab_at}
use Rattle.tidy_run.proofs.FirstLemmas.{first-none}

-- what is found of a tab
abbrev pub tab : ℕ → Finding
tab at = record { start = at; end = at + 1; text = codes "    " }

-- a tab is found where one stands
pub tab-here : (source : List ℕ) → (at : ℕ) → slice_index_or source at 0 ≡ 9 → tab_at source at ≡ Some (tab at)
tab-here source at is = ap (λ b. if b then Some (tab at) else None) (eq-eqb (slice_index_or source at 0) 9 is)

-- no tab is found where another byte stands
pub tab-none : (source : List ℕ) → (at : ℕ) → slice_index_or source at 0 ≢ 9 → tab_at source at ≡ None
tab-none source at other =
    elim (eqb_tells (slice_index_or source at 0) 9) [
      | inl (so, is) ↦ absurd (other is)
      | inr (so, is) ↦ ap (λ b. if b then Some (tab at) else None) so
    ]

-- a tab within the source is a finding
pub tab-finding : (source : List ℕ) → (from at : ℕ) → IsUtf8 source → from ≤ at → at < length source
    → slice_index_or source at 0 ≡ 9 → IsFinding source from (tab at)
tab-finding source from at utf8 after within is =
    record {
      after = after;
      ordered = omega arith;
      inside = omega (arith, within);
      starts = IsCharBoundary-before_ascii source at within (omega (arith, is));
      ends = IsCharBoundary-after_ascii source at utf8 within (omega (arith, is));
      empty = λ same. absurd (omega (arith, same));
      short = omega arith;
    }

-- from a source's end on there is no tab
pub tab-past : (source : List ℕ) → (from : ℕ) → length source ≤ from → first_from tab_at source from ≡ None
tab-past source from past =
    first-none tab_at source from (λ i after. tab-none source i (λ is. absurd (omega (arith, is, get_or_past source i 0 (omega (arith, past, after))))))
