use Rattle.redraw_read.specs.Counted.{clamped_child, undrawn_child}
use Rattle.redraw_read.specs.Placed.{IsRemarkOf, at_hand}
use Rattle.redraw_read.proofs.AllNext.{all-next}
use Rattle.redraw_read.proofs.Counting.{adds-next}
use Rattle.redraw_read.proofs.place.remarks_of.Goals as goal

pub loop-child-preserved : goal.loop-child-preserved
loop-child-preserved c =
    let hand = at_hand c.args.hand in
    record {
      are =
          all-next (IsRemarkOf hand) c.deref-child-items.result.now _ _ c.loop-child.child-index _ _ c.loop-child-test.true c.child-item.is
          c.in_ok-push.ensures.items c.loop-child.invariant.are c.in_ok-remark_of.ensures.is;
      counted =
          adds-next (clamped_child hand) (undrawn_child hand) c.deref-child-items.result.now c.loop-child.child-index c.child-item.result _ _ _
          c.loop-child-test.true c.child-item.is c.loop-child.invariant.counted c.in_ok-remark_of.ensures.counted;
    }
