use Rattle.snippet_parts.proofs.Common.{rules, answers_always, All-permutation, HasFit, sorted-only}
use Rattle.snippet_parts.proofs.LongLemmas.{long_before, long_before-order, before-tells, long_spans-is, long-ordered}
use Rattle.snippet_parts.proofs.long_spans.long_spans.Goals as goal

pub returns : goal.returns
returns c =
    let given = c.in_ok-spans.spans.items in
    let spans = c.sort_by.new.self.items in
    let sorted = c.in_ok-sort_by.ensures.sorted long_before long_before-order (answers_always _ _ _ (λ f a r g h. search (rules, before-tells))) in
    let stable = c.sort_by.ensures.stable long_before long_before-order (answers_always _ _ _ (λ f a r g h. search (rules, before-tells))) in
    record {
      value = long_spans-is given spans _ (sorted-only long_before long_before-order given spans sorted stable) c.in_ok-spans.ensures.value;
      ordered = long-ordered spans sorted;
      fit = λ s located. All-permutation (HasFit s) given spans c.sort_by.ensures.permutation (c.in_ok-spans.ensures.fit s located);
    }
