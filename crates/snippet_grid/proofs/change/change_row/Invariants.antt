-- What stands before the cell `col` is changed.
use Rattle.snippet_grid.proofs.Common.{◌-◌, string_bytes}
use Rattle.snippet_grid.proofs.ChangedRow.{ChangeSoFar}
use Rattle.snippet_grid.proofs.change.change_row.Given as goal

abbrev pub invariant-loop-col : goal.invariant-loop-col
invariant-loop-col l =
    ChangeSoFar (string_bytes l.initial.text) (string_bytes l.text) l.initial.runs.items l.runs.items l.cells.row l.cells.start l.cells.end l.change l.col

abbrev pub decreases-loop-col : goal.decreases-loop-col
decreases-loop-col l = l.cells.end - l.col
