use Rattle.snippet_strokes.proofs.Common.{arith, drop_all, drop_more}
use Rattle.snippet_strokes.proofs.PaintOrder.{reversed_order}
use Rattle.snippet_strokes.proofs.Common.{common_steps}
use Rattle.snippet_strokes.proofs.marks.is_order_reversed.Goals as goal

pub loop-entry-preserved : goal.loop-entry-preserved
loop-entry-preserved c rest = grind (arith, common_steps, drop_more)

pub returns : goal.returns
returns c =
    grind (arith, reversed_order, drop_all, c.args.placed.now, c.loop-entry.invariant, c.loop-entry.widest, c.loop-entry.entry-index, c.loop-entry-test.false)
