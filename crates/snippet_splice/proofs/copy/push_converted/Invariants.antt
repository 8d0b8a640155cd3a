use Rattle.snippet_splice.proofs.Common.{◌≡◌, ◌++◌, length, string_bytes, with_line_feeds}
use denote.Text.{Utf8}
use denote.Shadow.{shadow}
use Rattle.snippet_splice.proofs.copy.push_converted.Given as goal

-- what is left completes what is to be added
abbrev pub invariant-loop-front : goal.invariant-loop-front
invariant-loop-front l =
    shadow (Utf8 l.rest) × (string_bytes l.out ++ with_line_feeds l.rest ≡ string_bytes l.fn.out ++ with_line_feeds l.text)

abbrev pub decreases-loop-front : goal.decreases-loop-front
decreases-loop-front l = length l.rest
