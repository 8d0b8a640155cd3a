use Rattle.std.proofs.Common.{map, subst, sym}
use Rattle.std.specs.List.{Contains}
use Rattle.serde_json.specs.View.{view}
use Rattle.redraw_read.specs.Places.{IsCallBeside}
use Rattle.redraw_read.proofs.Listed.{added_next, is_listed}
use Rattle.redraw_read.proofs.spans.add_calls.Goals as goal

pub loop-index-preserved : goal.loop-index-preserved
loop-index-preserved c =
    let values = c.args.values.now in
    let items = map view values in
    let listed = is_listed values c.loop-index.index c.index-values-index.result c.loop-index-test.true c.index-values-index.is in
    added_next (IsCallBeside items) c.args.spans.now.items _ _ c.loop-index.invariant
    (c.in_ok-add_call.ensures.added items (subst (λ v. Contains items (view v)) (sym c.item.ensures.value) listed))
