use Rattle.std.proofs.Common.{◌≡◌, take}
use Rattle.std.specs.List.{AllZip}
use Rattle.redraw_read.specs.Counted.{adds, clamped_edits}
use Rattle.redraw_read.specs.Placed.{IsSpotOf, at_hand}
use Rattle.redraw_read.proofs.offers.spots_of.Given as goal

-- where the edits so far are, and how many of them aren't in their sources
abbrev pub invariant-loop-edit : goal.invariant-loop-edit
invariant-loop-edit l =
    record {
      are : AllZip (IsSpotOf (at_hand l.hand)) (take l.edit-index l.edit-items) l.spots.items;
      counted : l.placing ≡ adds l.fn.placing (clamped_edits (at_hand l.hand) (take l.edit-index l.edit-items)) 0;
    }
