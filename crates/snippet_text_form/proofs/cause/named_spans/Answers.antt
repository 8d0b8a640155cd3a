use Rattle.snippet_text_form.proofs.Common.{◌≡◌, filter, map, ap, ◌∙◌, arith, rules, take_all, answers_always, is_marking}
use Rattle.snippet_text_form.proofs.CauseLemmas.{annotation_of, compare-tells, named_spans-is, span_before, span_before-order}
use Rattle.snippet_text_form.proofs.cause.named_spans.Goals as goal

pub returns : goal.returns
returns c =
    let are : map annotation_of c.loop-annotation.spans.items ≡ filter (λ a. is_marking a.kind) c.args.annotations.now = c.loop-annotation.invariant
    ∙ ap (filter (λ a. is_marking a.kind)) (take_all c.loop-annotation.annotation-index c.args.annotations.now (omega arith)) in
    record {
      value = named_spans-is c.loop-annotation.spans.items c.sort_by.new.self.items c.args.annotations.now
          (c.in_ok-sort_by.ensures.sorted span_before span_before-order (answers_always _ _ _ (λ f a r g h. search (rules, compare-tells))))
          (c.in_ok-sort_by.ensures.stable span_before span_before-order (answers_always _ _ _ (λ f a r g h. search (rules, compare-tells)))) are;
    }
