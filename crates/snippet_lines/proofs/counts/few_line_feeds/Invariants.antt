use Rattle.snippet_lines.proofs.Common.{◌≡◌, count_by, take, is_lf}
use Rattle.snippet_lines.proofs.counts.few_line_feeds.Given as goal

abbrev pub invariant-loop-byte : goal.invariant-loop-byte
invariant-loop-byte l = l.count ≡ count_by is_lf (take l.byte-index l.bytes)
