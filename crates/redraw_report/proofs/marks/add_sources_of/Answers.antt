use Rattle.std.proofs.Common.{◌∙◌, ap}
use Rattle.redraw_report.specs.Report.{with_source}
use Rattle.redraw_report.proofs.Joined.{sources-next}
use Rattle.redraw_report.proofs.marks.add_sources_of.Goals as goal

pub loop-mark-preserved : goal.loop-mark-preserved
loop-mark-preserved c = (
  sources-next c.args.primary c.args.order.now.items c.args.marks.now c.loop-mark.mark-index c.mark-item.result
      c.loop-mark.order.items c.add_source_of.new.order.items
      c.loop-mark.invariant.0 c.loop-mark-test.true
      (c.in_ok-add_source_of.ensures.order ∙ ap (with_source c.args.primary c.loop-mark.order.items) c.mark-item.is),
  c.in_ok-add_source_of.ensures.keyed,
)
