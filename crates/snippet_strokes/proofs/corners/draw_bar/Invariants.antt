use Rattle.snippet_strokes.proofs.Common.{◌≡◌, column_of, painted}
use Rattle.snippet_strokes.proofs.corners.draw_bar.Given as goal

-- the bar is drawn down to this row
abbrev pub invariant-loop-row : goal.invariant-loop-row
invariant-loop-row g l =
    (g.C.Canvas.rows l.buffer) ≡ painted (column_of l.fn.start l.row l.fn.bar.cell l.fn.bar.strokes.bar l.fn.bar.strokes.style)
    (g.C.Canvas.rows l.initial.buffer)
