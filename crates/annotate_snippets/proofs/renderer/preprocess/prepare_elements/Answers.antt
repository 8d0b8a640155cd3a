use Rattle.std.proofs.Common.{arith}
use Rattle.annotate_snippets.proofs.Common.{◌∙◌, ap, filter, take_all, All-nil, All-same, is_drawn}
use Rattle.annotate_snippets.proofs.PreparedLemmas.{AreDrawnPrepared-more}
use Rattle.annotate_snippets.proofs.renderer.preprocess.prepare_elements.Goals as goal

pub loop-element-init : goal.loop-element-init
loop-element-init c = grind (arith, All-same, All-nil, c.in_ok-prepared.ensures.items, c.in_ok-prepared.prepared.items)

pub add_prepared-requires : goal.add_prepared-requires
add_prepared-requires c = grind (arith, c.element-item.is, c.requires.drawable, c.loop-element.element-index, c.element-item.result, c.loop-element-test.true)

pub loop-element-preserved : goal.loop-element-preserved
loop-element-preserved c =
    AreDrawnPrepared-more _ _ _ _ _ c.loop-element-test.true c.element-item.is c.in_ok-add_prepared.ensures.added c.in_ok-add_prepared.ensures.prepared
    c.loop-element.invariant

pub returns : goal.returns
returns c = record {
  elements = c.loop-element.invariant.elements ∙ ap (filter is_drawn) (take_all c.loop-element.element-index c.args.elements.now c.loop-element-test.false);
  prepared = c.loop-element.invariant.prepared;
}
