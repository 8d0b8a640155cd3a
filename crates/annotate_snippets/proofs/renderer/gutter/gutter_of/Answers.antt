use Rattle.std.proofs.Common.{arith}
use Rattle.std.proofs.lemmas.Grind.{common_steps}
use Rattle.annotate_snippets.proofs.Common.{subst, sym, take_all, All-same, flat_map-map, IsElementPrepared, IsGroupPrepared}
use Rattle.annotate_snippets.proofs.WidestLemmas.{elements_in, greater, widest-more_groups, widest-prepared, width-undrawn}
use Rattle.annotate_snippets.proofs.renderer.gutter.gutter_of.Goals as goal
use Rattle.annotate_snippets.proofs.renderer.gutter.gutter_of.Goals.{After-deref}

prepared_at : (c : After-deref) → IsGroupPrepared c.group-item.result
prepared_at c = subst IsGroupPrepared (sym c.group-item.is) (c.requires.prepared c.loop-group.group-index c.group-item.result c.loop-group-test.true)

pub widened-gutter-requires-clause-prepared : goal.widened-gutter-requires-clause-prepared
widened-gutter-requires-clause-prepared c =
    All-same IsElementPrepared c.deref.result.now c.group-item.result.elements.items c.deref.ensures.value (prepared_at c).prepared

pub loop-group-preserved : goal.loop-group-preserved
loop-group-preserved c = grind (arith, common_steps, widest-more_groups, widest-prepared, width-undrawn, greater)

pub returns-clause-value : goal.returns-clause-value
returns-clause-value c = grind (arith, common_steps, greater, elements_in, take_all, flat_map-map)
