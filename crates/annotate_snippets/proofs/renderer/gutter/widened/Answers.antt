use Rattle.std.proofs.lemmas.Grind.{common_steps}
use Rattle.annotate_snippets.proofs.Common.{arith, take_all}
use Rattle.annotate_snippets.proofs.WidestLemmas.{widest-more}
use Rattle.annotate_snippets.proofs.renderer.gutter.widened.Goals as goal

pub wanted-requires : goal.wanted-requires
wanted-requires c = grind (arith, c.element-item.is, c.requires.prepared, c.loop-element.element-index, c.element-item.result, c.loop-element-test.true)

pub loop-element-preserved : goal.loop-element-preserved
loop-element-preserved c = grind (arith, common_steps, widest-more)

pub returns-clause-value : goal.returns-clause-value
returns-clause-value c = cc (c.loop-element.invariant.value, take_all c.loop-element.element-index c.args.elements.now c.loop-element-test.false)
