use Rattle.serde_json.specs.View.{view}
use Rattle.redraw_tools.specs.Fixes.{remarks}
use Rattle.redraw_tools.specs.Rule.{part_data, rule_data}
use Rattle.redraw_tools.proofs.FixLemmas.{adds-next}
use Rattle.redraw_tools.proofs.fixes.add_fixes.Goals as goal

pub loop-index-preserved : goal.loop-index-preserved
loop-index-preserved c =
    adds-next (view c.args.context.now.run.now) c.args.context.now.unit (part_data c.args.context.now.rule) (rule_data c.args.context.now.rule)
    c.args.fixes.now.items.now c.loop-index.index c.value-item.result c.node.result.value.now
    (remarks c.args.children.now) (remarks c.loop-index.children) (remarks c.take_fix.new.children)
    c.loop-index-test.true c.value-item.is c.node.ensures.value c.loop-index.invariant c.in_ok-take_fix.ensures.added
