use Rattle.std.proofs.Common.{◌≡◌, take}
use Rattle.std.specs.List.{AllZip, sum_by}
use Rattle.redraw_read.specs.Counted.{adds, clamped_child, undrawn_child}
use Rattle.redraw_read.specs.Placed.{IsRemarkOf, at_hand}
use Rattle.redraw_read.proofs.place.remarks_of.Given as goal

-- the remarks so far, and what is counted of their children
abbrev pub invariant-loop-child : goal.invariant-loop-child
invariant-loop-child l =
    record {
      are : AllZip (IsRemarkOf (at_hand l.hand)) (take l.child-index l.child-items) l.remarks.items;
      counted :
          l.placing
          ≡ adds l.fn.placing (sum_by (clamped_child (at_hand l.hand)) (take l.child-index l.child-items))
          (sum_by (undrawn_child (at_hand l.hand)) (take l.child-index l.child-items));
    }
