use Rattle.redraw_tools.specs.Eslint.{suggestion_in}
use Rattle.redraw_tools.proofs.Listed.{keeps_more}
use Rattle.redraw_tools.proofs.eslint.add_suggestions.Goals as goal

pub loop-index-preserved : goal.loop-index-preserved
loop-index-preserved c =
    keeps_more (suggestion_in c.args.path.now) c.list-suggestions.result.items.now c.loop-index.index c.value-item.result _ _ _ _
    c.loop-index-test.true c.value-item.is c.node-suggestion.ensures.value c.loop-index.invariant c.in_ok-add_suggestion.ensures.added
