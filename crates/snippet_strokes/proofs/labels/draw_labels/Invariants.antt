use Rattle.snippet_strokes.proofs.Common.{◌≡◌, take, labels_of, painted}
use Rattle.snippet_strokes.proofs.labels.draw_labels.Given as goal

-- the labels so far are written
abbrev pub invariant-loop-entry : goal.invariant-loop-entry
invariant-loop-entry g l =
    (g.C.Canvas.rows l.buffer) ≡ painted (labels_of l.layout l.row (take l.entry-index l.placed)) (g.C.Canvas.rows l.initial.buffer)
