use Rattle.std.specs.List.{sum_by}
use Rattle.redraw_read.specs.Counted.{clamped_child, clamped_spans, undrawn_child}
use Rattle.redraw_read.specs.Placed.{at_hand}
use Rattle.redraw_read.proofs.Counting.{adds-then}
use Rattle.redraw_read.proofs.place.finding_in.Goals as goal

pub returns-clause-counted : goal.returns-clause-counted
returns-clause-counted c =
    let hand = at_hand c.args.hand in
    let children = c.args.diagnostic.now.children.items in
    adds-then c.args.placing.now c.marks_of.new.placing c.remarks_of.new.placing (clamped_spans hand c.args.diagnostic.now.spans.items)
    (sum_by (clamped_child hand) children) (sum_by (undrawn_child hand) children) c.in_ok-marks.ensures.counted c.in_ok-remarks.ensures.counted
