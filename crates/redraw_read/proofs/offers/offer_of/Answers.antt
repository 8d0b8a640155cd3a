use Rattle.std.proofs.Common.{List, ap, is_some, subst, ◌∙◌}
use Rattle.redraw_report.specs.declared.diagnostic.SuggestedEdit.{SuggestedEdit}
use Rattle.redraw_read.specs.declared.spot.Spot.{Spot}
use Rattle.redraw_read.specs.Counted.{clamped_edits, is_drawn}
use Rattle.redraw_read.specs.Placed.{IsOfferAt, at_hand, one_source}
use Rattle.redraw_read.proofs.Counting.{adds-alternative, drawn-as}
use Rattle.redraw_read.proofs.offers.offer_of.Goals as goal

pub returns : goal.returns
returns c =
    let hand = at_hand c.args.hand in
    let offer = c.in_ok-offer.offer in
    let spots = c.in_ok-spots.spots.items in
    let by_edits = subst (λ (es : List SuggestedEdit). IsOfferAt c.deref.result.now es offer) c.deref-2.ensures.value c.in_ok-offer.ensures.is in
    record {
      is = (
        spots,
        c.in_ok-spots.ensures.are,
        subst (λ (spots : List Spot). IsOfferAt spots c.args.edits.now.items offer) c.deref.ensures.value by_edits,
      );
      counted =
          adds-alternative c.args.placing.now c.spots_of.new.placing (clamped_edits hand c.args.edits.now.items) c.counted-placing.result
          c.is_none.result (is_some offer) (is_drawn hand c.args.edits.now.items) c.in_ok-spots.ensures.counted c.counted-placing.ensures.value
          c.is_none.ensures
          (c.in_ok-offer.ensures.drawn ∙ ap (λ (ss : List Spot). is_some (one_source ss)) c.deref.ensures.value
          ∙ drawn-as hand c.args.edits.now.items spots c.in_ok-spots.ensures.are);
    }
