use Rattle.std.proofs.lemmas.Grind.{common_steps}
use Rattle.annotate_snippets.proofs.Common.{◌∙◌, All, List, ap, arith, fold, map, subst, sym, take_all, All-same, depth_of_element, IsElementPrepared}
use Rattle.annotate_snippets.proofs.Common.{element_of, PreparedElement}
use Rattle.annotate_snippets.proofs.WidestLemmas.{depth-undrawn, greater, widest-more, widest-prepared}
use Rattle.annotate_snippets.proofs.renderer.preprocess.PreparedGroup.depth.Goals as goal

pub depth-requires : goal.depth-requires
depth-requires c =
    let ps = c.deref-element-items.result.now in
    let all : All IsElementPrepared ps = All-same IsElementPrepared ps _ c.deref-element-items.ensures.value c.requires.prepared.prepared in
    record { prepared = subst IsElementPrepared (sym c.element-item.is) (all c.loop-element.element-index c.element-item.result c.loop-element-test.true) }

pub loop-element-preserved : goal.loop-element-preserved
loop-element-preserved c = grind (arith, common_steps, widest-more)

pub returns-clause-value : goal.returns-clause-value
returns-clause-value c =
    let ps = c.deref-element-items.result.now in
    c.loop-element.invariant.value ∙ ap (λ (qs : List PreparedElement). fold (greater depth_of_element) 0 (map element_of qs))
    (take_all c.loop-element.element-index ps c.loop-element-test.false)
    ∙ widest-prepared depth_of_element depth-undrawn 0 c.args.self.now ps c.deref-element-items.ensures.value c.requires.prepared
