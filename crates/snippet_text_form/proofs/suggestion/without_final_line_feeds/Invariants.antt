use Rattle.snippet_text_form.proofs.Common.{◌≡◌, length, without_final_line_feeds}
use denote.Text.{Utf8}
use denote.Shadow.{shadow}
use Rattle.snippet_text_form.proofs.suggestion.without_final_line_feeds.Given as goal

-- only LF were taken from the end of the text
abbrev pub invariant-loop-front : goal.invariant-loop-front
invariant-loop-front l =
    shadow (Utf8 l.rest) × (without_final_line_feeds l.rest ≡ without_final_line_feeds l.text)

abbrev pub decreases-loop-front : goal.decreases-loop-front
decreases-loop-front l = length l.rest
