use Rattle.snippet_grid.proofs.Common.{arith}
use Rattle.snippet_grid.proofs.RunLemmas.{none}
use Rattle.snippet_grid.proofs.RowWoven.{row_ended}
use Rattle.snippet_grid.proofs.row_runs.row_end.Goals as goal

pub returns-else-runs-to : goal.returns-else-runs-to
returns-else-runs-to c = record {
  at = row_ended c.args.runs.now c.args.from c.loop-to.to c.args.row none c.requires.ordered c.requires.begins c.loop-to.invariant.low
      c.loop-to.invariant.high c.loop-to.invariant.inside (λ within. c.if-runs-to.false);
}

pub returns-after-loop-to : goal.returns-after-loop-to
returns-after-loop-to c = record {
  at = row_ended c.args.runs.now c.args.from c.loop-to.to c.args.row none c.requires.ordered c.requires.begins c.loop-to.invariant.low
      c.loop-to.invariant.high c.loop-to.invariant.inside (λ within. absurd (omega (arith, c.loop-to-test.false)));
}
