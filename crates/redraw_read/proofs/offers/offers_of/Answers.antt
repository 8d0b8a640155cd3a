use Rattle.std.proofs.Common.{[], ◌∷◌, ◌++◌, ◌∙◌, List, Option, ap, not, refl, sym}
use Rattle.std.specs.Global.{Vec}
use Rattle.std.specs.List.{filter_map}
use Rattle.std.proofs.lemmas.List.Elements.{filter_map-append}
use Rattle.redraw_report.specs.declared.diagnostic.SuggestedEdit.{SuggestedEdit}
use Rattle.redraw_report.specs.declared.finding.Offer.{Offer}
use Rattle.redraw_read.specs.Counted.{clamped_edits, is_drawn, ones}
use Rattle.redraw_read.specs.Placed.{IsOfferOf, at_hand}
use Rattle.redraw_read.proofs.AllNext.{all-next}
use Rattle.redraw_read.proofs.Counting.{adds-next}
use Rattle.redraw_read.proofs.offers.offers_of.Goals as goal

pub loop-edits-preserved : goal.loop-edits-preserved
loop-edits-preserved c =
    let hand = at_hand c.args.hand in
    let are = c.loop-edits.invariant.are in
    let each = are.0 in
    let offer = c.in_ok-offer.offer in
    let found = λ (o : Option Offer). o in
    record {
      are = (
        each ++ offer ∷ [],
        all-next (λ (edits : Vec SuggestedEdit). IsOfferOf hand edits.items) c.deref-edits-items.result.now each _ c.loop-edits.edits-index _ _
            c.loop-edits-test.true c.edits-item.is refl are.1 c.in_ok-offer.ensures.is,
        c.in_ok-add_offer.ensures.added
            ∙ ap (λ (os : List Offer). os ++ filter_map found (offer ∷ [])) are.2
            ∙ sym (filter_map-append found each (offer ∷ [])),
      );
      counted =
          adds-next (λ (edits : Vec SuggestedEdit). clamped_edits hand edits.items) (λ (edits : Vec SuggestedEdit). ones (not (is_drawn hand edits.items)))
          c.deref-edits-items.result.now c.loop-edits.edits-index c.edits-item.result _ _ _ c.loop-edits-test.true c.edits-item.is
          c.loop-edits.invariant.counted c.in_ok-offer.ensures.counted;
    }
