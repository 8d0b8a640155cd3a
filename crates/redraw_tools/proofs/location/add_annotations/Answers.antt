use Rattle.serde_json.specs.View.{view}
use Rattle.redraw_tools.specs.Places.{annotations_of}
use Rattle.redraw_tools.specs.Rule.{part_data, rule_data}
use Rattle.redraw_tools.proofs.Adding.{gives-adding}
use Rattle.redraw_tools.proofs.location.add_annotations.Goals as goal

pub loop-index-preserved : goal.loop-index-preserved
loop-index-preserved c =
    gives-adding (part_data c.args.context.now.rule) (rule_data c.args.context.now.rule)
    (annotations_of (view c.args.context.now.run.now) c.args.context.now.unit) c.args.locations.now.items.now c.loop-index.index
    c.value-item.result c.node.result.value.now c.args.spans.now.items c.loop-index.spans.items c.add_annotations_at.new.spans.items
    c.loop-index-test.true c.value-item.is c.node.ensures.value c.loop-index.invariant c.in_ok-add_annotations_at.ensures.added
