use Rattle.snippet_suggest.proofs.Common.{◌≡◌, ◌+◌, ◌-◌, ◌≤◌, ◌++◌, ◌∷◌, [], List, length, max, replicate, Addition, Cell, put}
use Rattle.snippet_suggest.proofs.marks.draw_mark.Given as goal

-- the row shows no line so far, and holds the marks before this column
abbrev pub invariant-loop-column : goal.invariant-loop-column
invariant-loop-column l = record {
  within : l.column ≤ max l.start l.column-end;
  cells : (above : List (List Cell)) (last : List Cell) → l.row ≡ length above → l.initial.buffer ≡ above ++ last ∷ []
      → l.buffer ≡ above ++ put Addition (replicate (l.column - l.start) l.mark) (l.layout.base.gutter + 3 + l.start) last ∷ [];
}
