use Rattle.snippet_splice.proofs.Common.{◌≡◌, ◌+◌, ◌++◌, ℕ, count_by, length, max, is_lf, capped, pieces_on, line_stretches, slice_split}
use denote.Text.{Utf8}
use denote.Shadow.{shadow}
use Rattle.snippet_splice.proofs.stretches.push_pieces.Given as goal

-- the pieces that are left complete those that are to be added
abbrev pub invariant-loop-piece : goal.invariant-loop-piece
invariant-loop-piece l = record {
  text : shadow (Utf8 l.rest);
  whole : (k : ℕ)
      → line_stretches l.lines.items k ++ pieces_on k l.line l.start (slice_split is_lf l.rest) ≡ line_stretches l.fn.lines.items k
      ++ pieces_on k l.first l.from (slice_split is_lf l.replacement);
  lines : max (length l.lines.items) (capped (l.line + count_by is_lf l.rest + 1))
      ≡ max (length l.fn.lines.items) (capped (l.first + count_by is_lf l.replacement + 1));
  begun : count_by is_lf l.replacement ≡ 0 → (l.start ≡ l.from) × (l.rest ≡ l.replacement);
}

abbrev pub decreases-loop-piece : goal.decreases-loop-piece
decreases-loop-piece l = length l.rest
