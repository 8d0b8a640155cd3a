use Rattle.serde_json.specs.View.{view}
use Rattle.redraw_tools.specs.Places.{annotation_in}
use Rattle.redraw_tools.specs.Rule.{part_data, rule_data}
use Rattle.redraw_tools.proofs.Adding.{keeps-adding}
use Rattle.redraw_tools.proofs.location.add_annotations_at.Goals as goal

pub loop-index-preserved : goal.loop-index-preserved
loop-index-preserved c =
    keeps-adding (part_data c.args.context.now.rule) (rule_data c.args.context.now.rule)
    (annotation_in (view c.args.context.now.run.now) c.args.context.now.unit (view c.args.location.now.value.now))
    c.list-annotations.result.items.now c.loop-index.index c.value-item.result c.node-region.result.value.now c.in_ok-span.span
    c.args.spans.now.items c.loop-index.spans.items c.add_span.new.spans.items
    c.loop-index-test.true c.value-item.is c.node-region.ensures.value c.loop-index.invariant c.in_ok-span.ensures.is c.in_ok-add_span.ensures.added
