use Rattle.std.proofs.Common.{arith, ◌∙◌}
use Rattle.replay_run.specs.Checked.{most}
use Rattle.replay_run.proofs.Growing.{grows_twice}
use Rattle.replay_run.proofs.Checking.{none_failed, one_more}
use Rattle.replay_run.proofs.run.check.Goals as goal

pub loop-pair-preserved : goal.loop-pair-preserved
loop-pair-preserved g c =
    let (answers, lines, checked) = c.in-Ok.ensures.counts in (
      one_more g.R.File.Read.remaining c.loop-pair.pair c.loop-pair.counts c.in-Ok.more c.plus-counts.result answers lines c.loop-pair.invariant.0 checked
          c.plus-counts.ensures.passed c.plus-counts.ensures.failed,
      grows_twice _ _ _ c.loop-pair.invariant.1 c.in-Ok.ensures.added,
      λ none. let (before, here) = none_failed c.loop-pair.counts.failed c.in-Ok.more.failed most c.plus-counts.result.failed
          (omega arith) c.plus-counts.ensures.failed none in c.in-Ok.ensures.silent here ∙ c.loop-pair.invariant.2 before,
    )
