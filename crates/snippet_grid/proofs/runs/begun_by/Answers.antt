use Rattle.snippet_grid.proofs.Common.{◌+◌, ◌-◌, ◌<◌, ◌/◌, ℕ, arith, div-lt_self}
use Rattle.snippet_grid.proofs.TouchLemmas.{begun_all, later_all}
use Rattle.snippet_grid.proofs.runs.begun_by.Goals as goal

-- the middle of a stretch that is not empty lies in it
half_below : (low high : ℕ) → low < high → (high - low) / 2 < high - low
half_below low high some = div-lt_self (omega arith) (omega arith)

pub loop-low-preserved-then-begins_after : goal.loop-low-preserved-then-begins_after
loop-low-preserved-then-begins_after c =
    let so_far = c.loop-low.invariant in
    let mid = c.loop-low.low + (c.loop-low.high - c.loop-low.low) / 2 in
    let below = half_below c.loop-low.low c.loop-low.high c.loop-low-test.true in
    record {
      ordered = omega (arith);
      within = omega (arith, below, so_far.within);
      begun = so_far.begun;
      later = later_all c.args.runs.now c.args.row c.args.cell _ mid c.requires.ordered (omega (arith, below, so_far.within))
          (c.begins_after.ensures.yes c.if-begins_after.true);
    }

pub loop-low-preserved : goal.loop-low-preserved
loop-low-preserved c =
    let so_far = c.loop-low.invariant in
    let mid = c.loop-low.low + (c.loop-low.high - c.loop-low.low) / 2 in
    let below = half_below c.loop-low.low c.loop-low.high c.loop-low-test.true in
    record {
      ordered = omega (arith, below);
      within = so_far.within;
      begun = λ k d within. begun_all c.args.runs.now c.args.row c.args.cell _ mid c.requires.ordered (omega (arith, below, so_far.within))
          (c.begins_after.ensures.no c.if-begins_after.false) k d (omega (arith, within));
      later = so_far.later;
    }
