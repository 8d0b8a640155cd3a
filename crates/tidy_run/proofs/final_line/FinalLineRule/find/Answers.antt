use Rattle.std.proofs.Common.{◌≡◌, ◌≢◌, ◌<◌, ◌≤◌, ◌-◌, arith, Some, inl, inr, ℕ, List, length, slice_index_or, subst, sym}
use Rattle.tidy_run.proofs.EndLemmas.{end-ended, end-found, end-past, missing_end}
use Rattle.tidy_run.specs.Rules.{first_from, missing_end_at}
use Rattle.tidy_run.proofs.final_line.FinalLineRule.find.Goals as goal
use Rattle.tidy_run.proofs.final_line.FinalLineRule.find.Goals.{then-end-eq0-via-then-end-eq0, then-end-eq0-via-else-end-eq0+then-end-from}
use Rattle.tidy_run.proofs.final_line.FinalLineRule.find.Goals.{then-end-eq0-via-else-end-eq0+else-end-from+then-bytes-end-eq10}

pub returns-then-end-eq0-clause-value : goal.returns-then-end-eq0-clause-value
returns-then-end-eq0-clause-value c =
    let source = c.args.source.now in
    let bytes = c.as_bytes-bytes.ensures.value in
    sym (elim c.then-end-eq0.branch [
      | then-end-eq0-via-then-end-eq0 w ↦
          end-ended source c.args.from (inl (subst (λ (l : List ℕ). length l ≡ 0) bytes w.if-end-eq0.true))
      | then-end-eq0-via-else-end-eq0+then-end-from w ↦
          end-past source c.args.from (subst (λ (l : List ℕ). length l < c.args.from) bytes w.if-end-from.true)
      | then-end-eq0-via-else-end-eq0+else-end-from+then-bytes-end-eq10 w ↦
          end-ended source c.args.from (inr (subst (λ (l : List ℕ). slice_index_or l (length l - 1) 0 ≡ 10) bytes w.if-bytes-end-eq10.true))
    ])

pub returns-clause-value : goal.returns-clause-value
returns-clause-value c =
    let bytes = c.as_bytes-bytes.ensures.value in
    subst (λ (l : List ℕ). Some (missing_end (length l)) ≡ first_from missing_end_at c.args.source.now c.args.from) (sym bytes)
    (sym (end-found c.args.source.now c.args.from
    (subst (λ (l : List ℕ). c.args.from ≤ length l) bytes c.if-end-from.false)
    (omega (arith, subst (λ (l : List ℕ). length l ≢ 0) bytes c.if-end-eq0.false))
    (subst (λ (l : List ℕ). slice_index_or l (length l - 1) 0 ≢ 10) bytes c.if-bytes-end-eq10.false)))
