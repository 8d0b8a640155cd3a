use Rattle.snippet_lines.proofs.Common.{◌≡◌, ◌<◌, ◌++◌, ◌∷◌, All, length, is_byte, places}
use Rattle.snippet_lines.proofs.StartLemmas.{starts_after}
use Rattle.snippet_lines.proofs.source_lines.line_starts.Given as goal

-- the starts so far, and those after the line feeds that are left, are all of them; each line feed stands in the source
abbrev pub invariant-loop-line_feed : goal.invariant-loop-line_feed
invariant-loop-line_feed l =
    (goal.iterator-loop-line_feed).can_next l.line_feed-iterator ×
    (goal.iterator-loop-line_feed).is_finite l.line_feed-iterator ×
    (l.starts.items ++ starts_after (length l.source) l.line_feed-iterator ≡ 0 ∷ starts_after (length l.source) (places (is_byte 10) l.source)) ×
    All (λ p. p < length l.source) l.line_feed-iterator
