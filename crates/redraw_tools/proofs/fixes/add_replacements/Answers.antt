use Rattle.redraw_tools.specs.Edits.{edit_in}
use Rattle.redraw_tools.proofs.Listed.{keeps_more}
use Rattle.redraw_tools.proofs.fixes.add_replacements.Goals as goal

pub loop-index-preserved : goal.loop-index-preserved
loop-index-preserved c =
    keeps_more (edit_in c.args.context.now.unit c.args.file.now) c.needed_list-replacements.result.items.now c.loop-index.index c.value-item.result _ _ _ _
    c.loop-index-test.true c.value-item.is c.node.ensures.value c.loop-index.invariant c.in_ok-add_replacement.ensures.added
