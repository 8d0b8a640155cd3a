use Rattle.snippet_strokes.proofs.Common.{◌≡◌, take, flat_map, mark_of, painted}
use Rattle.snippet_strokes.proofs.marks.paint_entries.Given as goal

-- the entries before this one are painted
abbrev pub invariant-loop-entry : goal.invariant-loop-entry
invariant-loop-entry g l =
    (g.C.Canvas.rows l.buffer) ≡ painted (flat_map (mark_of l.layout l.row) (take l.entry-index l.placed)) (g.C.Canvas.rows l.initial.buffer)
