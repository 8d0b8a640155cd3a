-- Runs show the cells so far.
use Rattle.snippet_grid.proofs.Common.{◌-◌, length, string_bytes, BeginsWith}
use Rattle.snippet_grid.proofs.AddedRows.{RowSoFar}
use Rattle.snippet_grid.proofs.added_row.add_stretches.Given as goal

abbrev pub invariant-loop-from : goal.invariant-loop-from
invariant-loop-from l =
    record {
      grows : BeginsWith (string_bytes l.fn.text) (string_bytes l.text);
      so_far : RowSoFar (string_bytes l.text) l.row l.cells l.fn.runs.items l.runs.items l.from;
    }

abbrev pub decreases-loop-from : goal.decreases-loop-from
decreases-loop-from l = length l.cells - l.from
