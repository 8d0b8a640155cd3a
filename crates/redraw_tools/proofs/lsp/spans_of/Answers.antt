use Rattle.redraw_tools.specs.Lsp.{related_place}
use Rattle.redraw_tools.proofs.Listed.{keeps_more}
use Rattle.redraw_tools.proofs.lsp.spans_of.Goals as goal

pub loop-index-preserved : goal.loop-index-preserved
loop-index-preserved c =
    keeps_more related_place c.list-related.result.items.now c.loop-index.index c.value-item.result _ _ _ _
    c.loop-index-test.true c.value-item.is c.node.ensures.value c.loop-index.invariant c.in_ok-add_related.ensures.added
