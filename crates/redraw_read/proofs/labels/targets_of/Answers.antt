use Rattle.std.proofs.Common.{take}
use Rattle.redraw_read.specs.Labels.{with_each}
use Rattle.redraw_read.proofs.Targeted.{bare-next, targets-next}
use Rattle.redraw_read.proofs.labels.targets_of.Goals as goal

pub loop-label-preserved : goal.loop-label-preserved
loop-label-preserved c =
    let labels = c.args.labels.now in
    let spans = c.args.spans.now in
    let i = c.loop-label.label-index in
    let now = c.in_ok-take_first.ensures.taken (with_each (take i labels) spans) c.loop-label.invariant.bare in
    record {
      found = targets-next labels i c.label-item.result spans c.loop-label.targets.items c.push.new.self.items c.in_ok-take_first.field-0
          c.loop-label-test.true c.label-item.is c.loop-label.invariant.found now.0 c.in_ok-push.ensures.items;
      bare = bare-next c.take_first.new.bare labels i c.label-item.result spans c.loop-label-test.true c.label-item.is now.1;
    }
