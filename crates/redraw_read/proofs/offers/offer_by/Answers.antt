use Rattle.std.proofs.Common.{IfSome, Option, inr, refl, subst}
use Rattle.redraw_report.specs.declared.finding.Offer.{Offer}
use Rattle.redraw_read.specs.Placed.{IsAttributeOffer}
use Rattle.redraw_read.proofs.Counting.{attribute_drawn}
use Rattle.redraw_read.proofs.offers.offer_by.Goals as goal

pub returns-in-Some : goal.returns-in-Some
returns-in-Some c =
    let is = subst (λ (o : Option Offer). IfSome o (IsAttributeOffer c.args.spots.now c.args.edits.now)) c.in-Some.is c.in_ok-offer.ensures.is in
    record {
      is = inr (c.in-Some.offer, refl, is);
      drawn = attribute_drawn c.args.spots.now c.args.edits.now c.in-Some.offer is;
    }
