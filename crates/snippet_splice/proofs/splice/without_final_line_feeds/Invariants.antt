use Rattle.snippet_splice.proofs.Common.{◌≡◌, take, length, without_final_line_feeds}
use denote.Text.{Utf8}
use denote.Shadow.{shadow}
use Rattle.snippet_splice.proofs.splice.without_final_line_feeds.Given as goal

-- what is left is the text's front, and only LF were taken from its end
abbrev pub invariant-loop-front : goal.invariant-loop-front
invariant-loop-front l =
    shadow (Utf8 l.rest) × (without_final_line_feeds l.rest ≡ without_final_line_feeds l.text) × (l.rest ≡ take (length l.rest) l.text)

abbrev pub decreases-loop-front : goal.decreases-loop-front
decreases-loop-front l = length l.rest
