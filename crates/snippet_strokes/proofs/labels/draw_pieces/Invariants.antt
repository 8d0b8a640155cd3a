-- The pieces so far are written, and the next one comes below them.
use Rattle.snippet_strokes.proofs.Common.{◌≡◌, ◌+◌, length, map, painted, pieces_at}
use Rattle.std.proofs.Common.{chars}
use Rattle.snippet_strokes.proofs.labels.draw_pieces.Given as goal

abbrev pub invariant-loop-piece : goal.invariant-loop-piece
invariant-loop-piece g l = record {
  rows : (g.C.Canvas.rows l.buffer) ≡ painted (pieces_at l.row l.cell l.role (map (λ piece. chars piece.now) l.yielded)) (g.C.Canvas.rows l.initial.buffer);
  below : l.below ≡ l.row + length l.yielded;
}
