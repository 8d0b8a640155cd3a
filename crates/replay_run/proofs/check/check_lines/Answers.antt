use Rattle.std.proofs.Common.{refl, ◌∙◌}
use Rattle.replay_run.proofs.Growing.{grows_none, grows_twice}
use Rattle.replay_run.proofs.Checking.{ended, checked_all, checked_none, checked_step, passes_counted, passes_if_none}
use Rattle.replay_run.proofs.check.check_lines.Goals as goal

pub loop-number-init : goal.loop-number-init
loop-number-init g c = (
  refl,
  checked_none _ _ _ _ _ c.lines-answers.ensures c.lines-lines.ensures refl refl,
  grows_none _,
  λ _. refl,
)

pub returns-in-None-None-clause-counts : goal.returns-in-None-None-clause-counts
returns-in-None-None-clause-counts g c =
    checked_all _ _ _ _ _ c.loop-number.invariant.1 (ended _ _ _ c.in-None-None.is-0 c.next.ensures.steps.1)
    (ended _ _ _ c.in-None-None.is-1 c.next-in-loop-number.ensures.steps.1)

pub loop-number-preserved : goal.loop-number-preserved
loop-number-preserved g c =
    let passed = c.with-counts.ensures.passed in
    let failed = c.with-counts.ensures.failed in
    let passes = c.in_ok-passes-in-Some-Some.passes in
    let (counted, checked, added, silent) = c.loop-number.invariant in (
      passes_counted passes _ _ _ _ _ passed failed counted,
      checked_step _ _ _ _ _ _ c.loop-number.counts c.with-counts.result _ _ c.in-Some-Some.answer c.in-Some-Some.line passes checked c.in-Some-Some.is-0
          c.in-Some-Some.is-1 c.next.ensures.steps.1 c.next-in-loop-number.ensures.steps.1 c.in_ok-passes-in-Some-Some.ensures.checks passed failed,
      grows_twice _ _ _ added c.in_ok-passes-in-Some-Some.ensures.added,
      λ none. let (before, here) = passes_if_none passes c.loop-number.counts.failed c.with-counts.result.failed failed none in
          c.in_ok-passes-in-Some-Some.ensures.silent here ∙ silent before,
    )
