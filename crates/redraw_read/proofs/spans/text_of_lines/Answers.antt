use Rattle.std.proofs.Common.{[], ◌∷◌, ◌++◌, subst}
use Rattle.serde_json.specs.View.{view}
use Rattle.redraw_read.specs.Places.{SaysLine}
use Rattle.redraw_read.proofs.Listed.{as_many, items_next, joined_next}
use Rattle.redraw_read.proofs.spans.text_of_lines.Goals as goal

pub loop-index-preserved : goal.loop-index-preserved
loop-index-preserved c =
    let values = c.args.lines.now in
    let i = c.loop-index.index in
    let said = c.loop-index.invariant.0 in
    let line = c.in_ok-line.line.now in
    let added = c.in_ok-add_line.ensures in (
      said ++ line ∷ [],
      items_next SaysLine values i c.index-lines-index.result said line c.loop-index-test.true c.index-lines-index.is c.loop-index.invariant.1
          (subst (λ v. SaysLine (view v) line) c.item.ensures.value c.in_ok-line.ensures.value),
      joined_next said i line _ _ (as_many SaysLine values i said c.loop-index-test.true c.loop-index.invariant.1) c.loop-index.invariant.2 added.first
          added.further,
    )
