-- The cells up to the end of the last run are written.
use Rattle.snippet_grid.proofs.Common.{◌≤◌, ◌++◌, List, Cell, cells_to}
use Rattle.snippet_grid.proofs.RowWoven.{StandsTo}
use Rattle.snippet_grid.proofs.row_runs.write_runs.Given as goal

abbrev pub invariant-loop-run : goal.invariant-loop-run
invariant-loop-run g l =
    record {
      added : (start : g.row.S.Denot) (cells : List Cell) → g.S.RowSink.adds start l.initial.sink cells
          → g.S.RowSink.adds start l.sink (cells ++ cells_to l.text l.runs l.row l.col);
      stands : StandsTo l.runs l.run-index l.col;
      inside : l.col ≤ l.width;
    }
