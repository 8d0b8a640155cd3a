use Rattle.std.proofs.lemmas.Grind.{common_steps}
use Rattle.snippet_text_form.proofs.Common.{All, List, sym, subst, map, on_ok_weaker, IsSpan, Annotation, NamedSpan, arith}
use Rattle.snippet_text_form.proofs.CauseLemmas.{annotation_of, All-annotations, All-named_spans, cause-added}
use Rattle.snippet_text_form.proofs.cause.add_cause.Goals as goal

pub add_spans-requires : goal.add_spans-requires
add_spans-requires c =
    let P : Annotation → Type 0 = λ a. IsSpan c.args.map.now.text a.span.start a.span.end in
    let given : All P c.deref.result.now = subst (All P) (sym c.deref.ensures.value) c.requires.spans in
    let named : All P (map annotation_of c.in_ok-spans.spans.items) = subst (All P) (sym c.in_ok-spans.ensures.value)
    (All-named_spans P c.deref.result.now given) in
    record {
      spans = subst (λ (spans : List NamedSpan). All (λ s. P (annotation_of s)) spans) (sym c.deref-2.ensures.value)
          (All-annotations P c.in_ok-spans.spans.items named);
    }

pub returns : goal.returns
returns c = grind (arith, common_steps, annotation_of, on_ok_weaker, cause-added)
