use Rattle.snippet_suggest.proofs.Common.{◌≡◌, ◌++◌, take, line_stretches, taken_cells}
use Rattle.snippet_suggest.proofs.diff.draw_diff_removed.Given as goal

-- the rows so far are added
abbrev pub invariant-loop-i : goal.invariant-loop-i
invariant-loop-i l = record {
  cells : l.buffer ≡ l.initial.buffer ++ taken_cells l.layout l.first (line_stretches l.replaced) 0 (take l.i l.removed);
}
