-- The bars of the entries so far are drawn.
use Rattle.snippet_strokes.proofs.Common.{◌≡◌, take, tops_of, painted}
use Rattle.snippet_strokes.proofs.corners.draw_tops.Given as goal

abbrev pub invariant-loop-entry : goal.invariant-loop-entry
invariant-loop-entry l = l.buffer ≡ painted (tops_of l.layout l.row (take l.entry-index l.placed)) l.initial.buffer
