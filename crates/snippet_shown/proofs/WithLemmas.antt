-- A snippet with the lines around those that it keeps, where lines are folded and where they aren't.
use Rattle.snippet_shown.proofs.Common.{common_steps, arith, ◌≡◌, ℕ, true, false, [], cond-false, All-nil, cow_str_bytes, Annotation, Snippet, kept_lines}
use Rattle.snippet_shown.proofs.Common.{context_spans, spans_around, IsSnippetWithContext}

-- where lines aren't folded no span is added
unfolded-spans : (before after : ℕ) (s : Snippet Annotation) → s.fold ≡ false → context_spans before after s ≡ []
unfolded-spans before after s none =
    cond-false s.fold (spans_around before after (cow_str_bytes s.source.text) 0 (kept_lines true (cow_str_bytes s.source.text) s.markers.items)) [] none

-- so the snippet stays
pub unfolded-with : (before after : ℕ) (s : Snippet Annotation) → s.fold ≡ false → IsSnippetWithContext before after s s
unfolded-with before after s none = grind (arith, common_steps, unfolded-spans, s.source.text, All-nil)
