use Rattle.snippet_strokes.proofs.Common.{◌≡◌, take, connectors_of, painted}
use Rattle.snippet_strokes.proofs.connectors.draw_connectors.Given as goal

-- the lines so far are drawn
abbrev pub invariant-loop-entry : goal.invariant-loop-entry
invariant-loop-entry g l =
    (g.C.Canvas.rows l.buffer) ≡ painted (connectors_of l.layout l.row (take l.entry-index l.placed)) (g.C.Canvas.rows l.initial.buffer)
