-- What stands before the low place begins by the cell; what stands from the high place on begins after it.
use Rattle.snippet_grid.proofs.Common.{◌<◌, ◌≤◌, ◌-◌, ℕ, length, slice_index_or, BeginsAfter, BeginsBy, Run}
use Rattle.snippet_grid.proofs.runs.begun_by.Given as goal

abbrev pub invariant-loop-low : goal.invariant-loop-low
invariant-loop-low l =
    record {
      ordered : l.low ≤ l.high;
      within : l.high ≤ length l.runs;
      begun : (k : ℕ) (d : Run) → k < l.low → BeginsBy l.row l.cell (slice_index_or l.runs k d);
      later : (k : ℕ) (d : Run) → l.high ≤ k → k < length l.runs → BeginsAfter l.row l.cell (slice_index_or l.runs k d);
    }

abbrev pub decreases-loop-low : goal.decreases-loop-low
decreases-loop-low l = l.high - l.low
