use Rattle.snippet_parts.proofs.Common.{◌∷◌, [], sym, subst, ap, ◌∙◌, arith, common_steps, All-append, All-cons, All-nil, Source, IsLocated, HasFit}
use Rattle.std.proofs.Common.{All}
use Rattle.snippet_parts.proofs.LocatedLemmas.{located-fit}
use Rattle.snippet_parts.proofs.long_spans.given_long_spans.Goals as goal
use Rattle.snippet_parts.proofs.long_spans.given_long_spans.Goals.{then-is_long+in_ok-push, else-is_long}

pub loop-span-preserved : goal.loop-span-preserved
loop-span-preserved c = (grind (arith, common_steps), fit)
  where
    fit : (s : Source) → All (IsLocated s) c.args.located.now → All (HasFit s) c.if-is_long.spans.items
    fit s located =
        elim c.if-is_long.branch [
          | then-is_long+in_ok-push w ↦
              let at : IsLocated s c.span-item.result =
              subst (IsLocated s) (sym c.span-item.is) (located c.loop-span.span-index c.span-item.result c.loop-span-test.true) in
              let own : HasFit s w.long_span.result = located-fit s c.span-item.result w.long_span.result w.long_span.ensures.value w.long_span.ensures.bars at
              (sym c.is_long.ensures.value ∙ w.if-is_long.true) in
              subst (All (HasFit s)) (sym (ap (λ v. v.items) w.spans-is ∙ w.in_ok-push.ensures.items)) (All-append (HasFit s) c.loop-span.spans.items
              (w.long_span.result ∷ []) (c.loop-span.invariant.1 s located) (All-cons (HasFit s) w.long_span.result [] own (All-nil (HasFit s))))
          | else-is_long w ↦ subst (All (HasFit s)) (sym (ap (λ v. v.items) w.spans-is)) (c.loop-span.invariant.1 s located)
        ]
