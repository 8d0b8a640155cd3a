use Rattle.snippet_grid.proofs.Common.{◌-◌, ℕ, arith}
use Rattle.snippet_grid.proofs.TouchLemmas.{begun_all, later_all}
use Rattle.snippet_grid.proofs.runs.begun_between.Goals as goal

pub returns-then-not-begins_after-clause-begun : goal.returns-then-not-begins_after-clause-begun
returns-then-not-begins_after-clause-begun c =
    let place : ℕ = c.loop-step.high - c.loop-step.step in
    λ k d within. begun_all c.args.runs.now c.args.row c.args.cell _ place c.requires.ordered
    (omega (arith, c.loop-step.invariant.within, c.loop-step.invariant.some, c.loop-step-test.true))
    (c.begins_after.ensures.no c.if-not-begins_after.true) k d (omega (arith, within))

pub loop-step-preserved : goal.loop-step-preserved
loop-step-preserved c =
    let place : ℕ = c.loop-step.high - c.loop-step.step in
    record {
      within = omega (arith, c.loop-step.invariant.within);
      some = omega (arith, c.saturating_mul-step.ensures, c.loop-step.invariant.some);
      later = later_all c.args.runs.now c.args.row c.args.cell _ place c.requires.ordered
          (omega (arith, c.loop-step.invariant.within, c.loop-step.invariant.some, c.loop-step-test.true))
          (c.begins_after.ensures.yes c.if-not-begins_after.false);
    }
