use Rattle.snippet_lines.proofs.Common.{◌≡◌, ◌+◌, ◌≤◌, count_by, length, is_lf}
use Rattle.snippet_lines.proofs.counts.count_line_feeds.Given as goal

abbrev pub invariant-loop-rest : goal.invariant-loop-rest
invariant-loop-rest l =
    (l.count + count_by is_lf l.rest ≡ count_by is_lf l.fn.bytes) × (l.count + length l.rest ≤ length l.fn.bytes)

abbrev pub decreases-loop-rest : goal.decreases-loop-rest
decreases-loop-rest l = length l.rest
