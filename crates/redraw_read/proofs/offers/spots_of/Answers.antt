use Rattle.redraw_report.specs.declared.diagnostic.SuggestedEdit.{SuggestedEdit}
use Rattle.redraw_read.specs.Counted.{is_clamped, ones, sight_of_edit}
use Rattle.redraw_read.specs.Placed.{IsSpotOf, at_hand}
use Rattle.redraw_read.proofs.AllNext.{all-next}
use Rattle.redraw_read.proofs.Counting.{adds-next_place}
use Rattle.redraw_read.proofs.offers.spots_of.Goals as goal

pub loop-edit-preserved : goal.loop-edit-preserved
loop-edit-preserved c =
    let hand = at_hand c.args.hand in
    record {
      are =
          all-next (IsSpotOf hand) c.deref-edit-items.result.now _ _ c.loop-edit.edit-index _ _ c.loop-edit-test.true c.edit-item.is
          c.in_ok-push.ensures.items c.loop-edit.invariant.are c.in_ok-spot_of.ensures.is;
      counted =
          adds-next_place (λ (e : SuggestedEdit). ones (is_clamped (sight_of_edit hand e) e.region)) c.deref-edit-items.result.now c.loop-edit.edit-index
          c.edit-item.result _ _ _ c.loop-edit-test.true c.edit-item.is c.loop-edit.invariant.counted c.in_ok-spot_of.ensures.counted;
    }
