-- The runs so far are of the row.
use Rattle.snippet_grid.proofs.Common.{◌≡◌, ◌<◌, ◌≤◌, ◌-◌, ℕ, length, slice_index_or, Run}
use Rattle.snippet_grid.proofs.row_runs.row_end.Given as goal

abbrev pub invariant-loop-to : goal.invariant-loop-to
invariant-loop-to l =
    record {
      low : l.from ≤ l.to;
      high : l.to ≤ length l.runs;
      inside : (k : ℕ) (d : Run) → l.from ≤ k → k < l.to → (slice_index_or l.runs k d).row ≡ l.row;
    }

abbrev pub decreases-loop-to : goal.decreases-loop-to
decreases-loop-to l = length l.runs - l.to
