use Rattle.snippet_suggest.proofs.Common.{◌≡◌, ◌<◌, ◌^◌, ◌≤◌, ◌++◌, List, length, Cell, row_at, numbered_at}
use Rattle.snippet_suggest.proofs.RowsDrawn.{Emptied}
use Rattle.snippet_suggest.proofs.removed.draw_removed_lines.Given as goal

-- a row has a number below that of the greatest, and the next row is drawn below those so far
abbrev pub invariant-loop-info : goal.invariant-loop-info
invariant-loop-info l = record {
  small : l.row < 2 ^ 60;
  cells : (above tail : List (List Cell)) → l.initial.row ≡ length above → l.initial.buffer ≡ above ++ tail → length tail ≤ 1
      → Emptied l.layout above (row_at tail 0) (numbered_at l.lines) l.row l.info-index l.buffer;
}
