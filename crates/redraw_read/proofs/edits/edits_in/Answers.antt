use Rattle.std.proofs.Common.{[], ◌∷◌, ◌++◌, subst}
use Rattle.serde_json.specs.View.{view}
use Rattle.redraw_read.specs.Edits.{MayEdit}
use Rattle.redraw_read.proofs.Listed.{found_next, items_next}
use Rattle.redraw_read.proofs.edits.edits_in.Goals as goal

pub loop-index-preserved : goal.loop-index-preserved
loop-index-preserved c =
    let each = c.loop-index.invariant.0 in
    let added = c.in_ok-add_edit.ensures.added in
    let found = added.0 in (
      each ++ found ∷ [],
      items_next MayEdit c.args.values.now c.loop-index.index c.index-values-index.result each found c.loop-index-test.true c.index-values-index.is
          c.loop-index.invariant.1 (subst (λ v. MayEdit (view v) found) c.item.ensures.value added.1),
      found_next each found _ _ c.loop-index.invariant.2 added.2,
    )
