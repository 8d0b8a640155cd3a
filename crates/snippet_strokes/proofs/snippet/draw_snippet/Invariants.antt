use Rattle.snippet_strokes.proofs.Common.{◌≡◌, ◌++◌, [], All, drop, infos_of, infos_rows, HasBarRoom}
use Rattle.snippet_strokes.proofs.snippet.draw_snippet.Given as goal

-- with the rows of the lines that are left all lines are drawn, and each bar that is open above these has its place
abbrev pub invariant-loop-i : goal.invariant-loop-i
invariant-loop-i l =
    All (HasBarRoom l.layout) l.bars.open_bars.items × (l.buffer ++ infos_rows l.layout l.view l.bars.open_bars.items (drop l.i (infos_of l.lines))
    ≡ l.initial.buffer ++ infos_rows l.layout l.view [] (infos_of l.lines))
