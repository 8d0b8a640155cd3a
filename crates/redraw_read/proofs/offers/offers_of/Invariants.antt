use Rattle.std.proofs.Common.{◌≡◌, take}
use Rattle.redraw_read.specs.Counted.{adds, clamped_alternatives, undrawn_alternatives}
use Rattle.redraw_read.specs.Placed.{AreOffersOf, at_hand}
use Rattle.redraw_read.proofs.offers.offers_of.Given as goal

-- the offers so far, and what is counted of their alternatives
abbrev pub invariant-loop-edits : goal.invariant-loop-edits
invariant-loop-edits l =
    record {
      are : AreOffersOf (at_hand l.hand) (take l.edits-index l.edits-items) l.offers.items;
      counted :
          l.placing
          ≡ adds l.fn.placing (clamped_alternatives (at_hand l.hand) (take l.edits-index l.edits-items))
          (undrawn_alternatives (at_hand l.hand) (take l.edits-index l.edits-items));
    }
