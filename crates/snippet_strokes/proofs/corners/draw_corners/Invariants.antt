use Rattle.snippet_strokes.proofs.Common.{◌≡◌, length, take, corners_of, painted}
use Rattle.snippet_strokes.proofs.corners.draw_corners.Given as goal

-- the bars so far are drawn
abbrev pub invariant-loop-entry : goal.invariant-loop-entry
invariant-loop-entry g l =
    (g.C.Canvas.rows l.buffer) ≡ painted (corners_of l.layout l.row (length (g.C.Canvas.rows l.initial.buffer)) (take l.entry-index l.placed))
    (g.C.Canvas.rows l.initial.buffer)
