use Rattle.std.proofs.Common.{[], ◌∷◌, ◌++◌, subst}
use Rattle.serde_json.specs.View.{view}
use Rattle.redraw_read.specs.Places.{IsPlaceOf, is_place}
use Rattle.redraw_read.proofs.Listed.{items_next, kept_next}
use Rattle.redraw_read.proofs.spans.each_span.Goals as goal

pub loop-index-preserved : goal.loop-index-preserved
loop-index-preserved c =
    let named = c.args.named.now in
    let all = c.loop-index.invariant.0 in
    let span = c.in_ok-span_of.field-0 in (
      all ++ span ∷ [],
      items_next (IsPlaceOf named) c.args.values.now c.loop-index.index c.index-values-index.result all span c.loop-index-test.true c.index-values-index.is
          c.loop-index.invariant.1 (subst (λ v. IsPlaceOf named (view v) span) c.item.ensures.value c.in_ok-span_of.ensures.is),
      kept_next (is_place c.args.keeps_starts) all span _ _ c.loop-index.invariant.2 c.in_ok-add_span.ensures.added,
    )
