-- What the runs so far hold is copied.
use Rattle.snippet_grid.proofs.Common.{string_bytes}
use Rattle.snippet_grid.proofs.CopyLemmas.{CopySoFar}
use Rattle.snippet_grid.proofs.runs.copy_cells.Given as goal

abbrev pub invariant-loop-run : goal.invariant-loop-run
invariant-loop-run l =
    CopySoFar (string_bytes l.initial.text) (string_bytes l.text) l.initial.out.items l.out.items l.runs l.cells.row l.cells.start l.cells.end l.at l.run-index
