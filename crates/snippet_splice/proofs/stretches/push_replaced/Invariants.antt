use Rattle.snippet_splice.proofs.Common.{◌≡◌, ◌+◌, ◌++◌, ℕ, count_by, length, max, is_lf, capped, taken_on, line_stretches, slice_split}
use denote.Text.{Utf8}
use denote.Shadow.{shadow}
use Rattle.snippet_splice.proofs.stretches.push_replaced.Given as goal

-- what is left of the text completes what is to be taken
abbrev pub invariant-loop-piece : goal.invariant-loop-piece
invariant-loop-piece l = record {
  text : shadow (Utf8 l.rest);
  whole : (k : ℕ)
      → line_stretches l.lines.items k ++ taken_on k l.line l.before l.start l.place.end (slice_split is_lf l.rest) ≡ line_stretches l.fn.lines.items k
      ++ taken_on k l.first l.place.text_start l.place.start l.place.end (slice_split is_lf l.place.inside.now);
  lines : max (length l.lines.items) (capped (l.line + count_by is_lf l.rest + 1))
      ≡ max (length l.fn.lines.items) (capped (l.first + count_by is_lf l.place.inside.now + 1));
}

abbrev pub decreases-loop-piece : goal.decreases-loop-piece
decreases-loop-piece l = length l.rest
