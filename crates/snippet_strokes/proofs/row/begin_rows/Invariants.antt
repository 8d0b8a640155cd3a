use Rattle.snippet_strokes.proofs.Common.{◌≡◌, ◌-◌, ◌++◌, replicate, separator_row}
use Rattle.snippet_strokes.proofs.row.begin_rows.Given as goal

-- so many rows are begun
abbrev pub invariant-loop : goal.invariant-loop
invariant-loop g l =
    ((g.C.Canvas.rows l.buffer) ≡ (g.C.Canvas.rows l.initial.buffer) ++ replicate (l.counter - 1) (separator_row l.layout.decor l.layout.gutter))
