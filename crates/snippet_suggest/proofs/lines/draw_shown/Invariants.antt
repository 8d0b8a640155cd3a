use Rattle.snippet_suggest.proofs.Common.{◌≡◌, ◌++◌, map, take, row_shown}
use Rattle.snippet_suggest.proofs.lines.draw_shown.Given as goal

-- the lines before this one are drawn
abbrev pub invariant-loop-line : goal.invariant-loop-line
invariant-loop-line l = record {
  cells : l.buffer ≡ l.initial.buffer ++ map (row_shown l.layout l.text)
      (take l.line-index l.shown);
}
