use Rattle.snippet_strokes.proofs.Common.{◌≡◌, drop, length, stems_of, painted}
use Rattle.snippet_strokes.proofs.stems.draw_stems.Given as goal

-- with the stems from this entry on all are written; and no row is added
abbrev pub invariant-loop-i : goal.invariant-loop-i
invariant-loop-i g l =
    (painted (stems_of l.layout l.row (drop l.i l.placed)) (g.C.Canvas.rows l.buffer) ≡ painted (stems_of l.layout l.row l.placed)
    (g.C.Canvas.rows l.initial.buffer))
    × (length (g.C.Canvas.rows l.buffer) ≡ length (g.C.Canvas.rows l.initial.buffer))
