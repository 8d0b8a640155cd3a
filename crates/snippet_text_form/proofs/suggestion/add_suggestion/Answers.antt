use Rattle.std.proofs.lemmas.Grind.{common_steps}
use Rattle.std.proofs.Common.{arith}
use Rattle.snippet_text_form.proofs.Common.{All, append-nil, take_all, IsSpan, TrimmedPatch, known_spans}
use Rattle.snippet_text_form.proofs.SuggestionLemmas.{edits_more, suggestion_added}
use Rattle.snippet_text_form.proofs.suggestion.add_suggestion.Goals as goal

pub loop-patch-init : goal.loop-patch-init
loop-patch-init c = grind (arith, append-nil, c.add_option.new.form)

pub add_patch-requires : goal.add_patch-requires
add_patch-requires c =
    let p = c.args.suggestion.now in
    let spans : All (λ (t : TrimmedPatch). IsSpan p.map.text t.span.start t.span.end) c.deref-patch-items.result.now =
    grind (arith, common_steps, p, known_spans, p.map.text, c.deref-patch-items.ensures.value, c.requires.prepared) in
    record { span = spans c.loop-patch.patch-index _ c.loop-patch-test.true }

pub loop-patch-preserved : goal.loop-patch-preserved
loop-patch-preserved c = grind (arith, common_steps, edits_more)

pub returns : goal.returns
returns c = grind (arith, common_steps, take_all, suggestion_added)
