-- The spans so far are those that are marked.
use Rattle.snippet_text_form.proofs.Common.{◌≡◌, filter, map, take, is_marking}
use Rattle.snippet_text_form.proofs.CauseLemmas.{annotation_of}
use Rattle.snippet_text_form.proofs.cause.named_spans.Given as goal

abbrev pub invariant-loop-annotation : goal.invariant-loop-annotation
invariant-loop-annotation l =
    map annotation_of l.spans.items ≡ filter (λ a. is_marking a.kind) (take l.annotation-index l.annotations)
