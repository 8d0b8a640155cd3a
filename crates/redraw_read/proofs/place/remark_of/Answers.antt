use Rattle.redraw_read.specs.Counted.{clamped_alternatives, clamped_spans, undrawn_alternatives}
use Rattle.redraw_read.specs.Placed.{at_hand}
use Rattle.redraw_read.proofs.Counting.{adds-then}
use Rattle.redraw_read.proofs.place.remark_of.Goals as goal

pub returns-clause-counted : goal.returns-clause-counted
returns-clause-counted c =
    let hand = at_hand c.args.hand in
    let alternatives = c.args.child.now.alternatives.items in
    adds-then c.args.placing.now c.marks_of.new.placing c.offers_of.new.placing (clamped_spans hand c.args.child.now.spans.items)
    (clamped_alternatives hand alternatives) (undrawn_alternatives hand alternatives) c.in_ok-marks.ensures.counted c.in_ok-offers.ensures.counted
