-- What stands from the high place on begins after the cell.
use Rattle.snippet_grid.proofs.Common.{◌<◌, ◌≤◌, ℕ, length, slice_index_or, BeginsAfter, Run}
use Rattle.snippet_grid.proofs.runs.begun_between.Given as goal

abbrev pub invariant-loop-step : goal.invariant-loop-step
invariant-loop-step l =
    record {
      within : l.high ≤ length l.runs;
      some : 0 < l.step;
      later : (k : ℕ) (d : Run) → l.high ≤ k → k < length l.runs → BeginsAfter l.row l.cell (slice_index_or l.runs k d);
    }

abbrev pub decreases-loop-step : goal.decreases-loop-step
decreases-loop-step l = l.high
