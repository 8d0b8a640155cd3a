use Rattle.redraw_report.specs.declared.diagnostic.FileSpan.{FileSpan}
use Rattle.redraw_read.specs.Counted.{is_clamped, ones, sight_of_span}
use Rattle.redraw_read.specs.Placed.{IsMarkOf, at_hand}
use Rattle.redraw_read.proofs.AllNext.{all-next}
use Rattle.redraw_read.proofs.Counting.{adds-next_place}
use Rattle.redraw_read.proofs.place.marks_of.Goals as goal

pub loop-span-preserved : goal.loop-span-preserved
loop-span-preserved c =
    let hand = at_hand c.args.hand in
    record {
      are =
          all-next (IsMarkOf hand) c.deref-span-items.result.now _ _ c.loop-span.span-index _ _ c.loop-span-test.true c.span-item.is
          c.in_ok-push.ensures.items c.loop-span.invariant.are c.in_ok-mark_of.ensures.is;
      counted =
          adds-next_place (λ (s : FileSpan). ones (is_clamped (sight_of_span hand s) s.region)) c.deref-span-items.result.now c.loop-span.span-index
          c.span-item.result _ _ _ c.loop-span-test.true c.span-item.is c.loop-span.invariant.counted c.in_ok-mark_of.ensures.counted;
    }
