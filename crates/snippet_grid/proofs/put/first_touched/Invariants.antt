-- What stands between the two places touches the run.
use Rattle.snippet_grid.proofs.Common.{◌<◌, ◌≤◌, ℕ, slice_index_or, Touches, Run}
use Rattle.snippet_grid.proofs.put.first_touched.Given as goal

abbrev pub invariant-loop-start : goal.invariant-loop-start
invariant-loop-start l =
    record {
      within : l.start ≤ l.end;
      touch : (k : ℕ) (d : Run) → l.start ≤ k → k < l.end → Touches (slice_index_or l.runs k d) l.run;
    }

abbrev pub decreases-loop-start : goal.decreases-loop-start
decreases-loop-start l = l.start
