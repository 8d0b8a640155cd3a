-- Findings of ASCII characters.
use Rattle.std.proofs.Common.{ℕ, arith, ◌≤◌, List, sym, subst}
use Rattle.std.proofs.lemmas.Str.{IsCharBoundary-before_ascii}
use Rattle.std.specs.Str.{IsCharBoundary}
use Rattle.tidy_run.specs.Findings.{Finding, IsFinding, IsRunAt}

-- such a finding lies inside the source, between characters
pub run-finding : (source : List ℕ) → (from at : ℕ) → (f : Finding) → IsRunAt source at f → from ≤ at → IsFinding source from f
run-finding source from at f run after =
    record {
      after = omega (arith, run.begins, after);
      ordered = omega (arith, run.begins, run.takes);
      inside = run.inside;
      starts = subst (IsCharBoundary source) (sym run.begins) (IsCharBoundary-before_ascii source at (omega (arith, run.takes, run.inside)) run.from_ascii);
      ends = (run.inside, λ within low. absurd (omega (arith, low, run.to_ascii within)));
      empty = λ same. absurd (omega (arith, same, run.begins, run.takes));
      short = run.short;
    }
