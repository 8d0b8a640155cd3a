use Rattle.std.proofs.Common.{map, subst, sym, take, ◌+◌}
use Rattle.std.specs.List.{AllZip}
use Rattle.serde_json.specs.View.{view}
use Rattle.redraw_read.specs.Rustc.{IsChildOf}
use Rattle.redraw_read.proofs.Listed.{items_next}
use Rattle.redraw_read.proofs.rustc.children_by.Goals as goal

pub loop-index-preserved : goal.loop-index-preserved
loop-index-preserved c =
    let Says = IsChildOf c.args.reader.now in
    let i = c.loop-index.index in
    let child = c.in_ok-child_of.field-0 in
    subst (AllZip Says (map view (take (i + 1) c.args.values.now))) (sym c.in_ok-push.ensures.items)
    (items_next Says c.args.values.now i c.index-values-index.result c.loop-index.children.items child c.loop-index-test.true c.index-values-index.is
    c.loop-index.invariant (subst (λ v. Says (view v) child) c.item.ensures.value c.in_ok-child_of.ensures.is))
