use Rattle.std.proofs.Common.{◌≡◌, take}
use Rattle.std.specs.List.{AllZip}
use Rattle.redraw_read.specs.Counted.{adds, clamped_spans}
use Rattle.redraw_read.specs.Placed.{IsMarkOf, at_hand}
use Rattle.redraw_read.proofs.place.marks_of.Given as goal

-- the marks so far, and how many of their places aren't in their sources
abbrev pub invariant-loop-span : goal.invariant-loop-span
invariant-loop-span l =
    record {
      are : AllZip (IsMarkOf (at_hand l.hand)) (take l.span-index l.span-items) l.marks.items;
      counted : l.placing ≡ adds l.fn.placing (clamped_spans (at_hand l.hand) (take l.span-index l.span-items)) 0;
    }
