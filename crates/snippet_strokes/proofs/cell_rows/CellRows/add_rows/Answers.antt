use Rattle.snippet_strokes.proofs.Common.{ap, arith, length, append_assoc}
use Rattle.snippet_strokes.proofs.Common.{append-nil, length-map, length_push, map-append, replicate_more}
use Rattle.snippet_strokes.proofs.Common.{common_steps}
use Rattle.snippet_strokes.proofs.cell_rows.CellRows.add_rows.Goals as goal

pub loop-init : goal.loop-init
loop-init c = grind (arith, append-nil, c.self.inside.rows.items, c.len-counter.result, c.len-counter.ensures, c.self.inside.rows.ok.0)

pub invariant_of-self : goal.invariant_of-self
invariant_of-self c =
    omega (arith, c.loop.invariant.count, c.loop.invariant.below, c.if-row-ge-MAX_ROWS.false, c.self.invariant)

pub invariant_of-self-in_err-fresh : goal.invariant_of-self-in_err-fresh
invariant_of-self-in_err-fresh c =
    omega (arith, c.loop.invariant.count, c.loop.invariant.below, c.if-row-ge-MAX_ROWS.false, c.self.invariant)

pub invariant_of-self-in_err-push : goal.invariant_of-self-in_err-push
invariant_of-self-in_err-push c =
    omega (arith, ap length c.in_err-push.ensures.items, c.loop.invariant.count, c.loop.invariant.below, c.if-row-ge-MAX_ROWS.false, c.self.invariant)

pub loop-preserved : goal.loop-preserved
loop-preserved c = grind (arith, common_steps, map-append, append_assoc, replicate_more, length_push)

pub returns : goal.returns
returns c = grind (arith, length-map, c.loop.invariant, c.self.inside.rows.items, c.loop.counter, c.args.row, c.loop-test.false, c.self.view_is)
