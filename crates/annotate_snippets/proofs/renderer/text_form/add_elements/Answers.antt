use Rattle.std.proofs.lemmas.Grind.{common_steps}
use Rattle.annotate_snippets.proofs.Common.{arith, length, option_copied, length-drop, take_all}
use Rattle.annotate_snippets.proofs.FormSteps.{all_added, element_added, element_passed, none_added, number_small}
use Rattle.annotate_snippets.proofs.renderer.text_form.add_elements.Goals as goal
use Rattle.annotate_snippets.proofs.renderer.text_form.add_elements.Goals.{then-is_drawn+in_ok-add_element, else-is_drawn}

pub loop-i-init : goal.loop-i-init
loop-i-init c = none_added c.args.renderer.now (option_copied c.args.file) c.args.elements.now c.args.form.now

pub add_element-requires-clause-small : goal.add_element-requires-clause-small
add_element-requires-clause-small c =
    number_small c.loop-i.before c.loop-i.i (length c.args.elements.now) c.loop-i.invariant.numbered c.loop-i-test.true (omega arith)

pub loop-i-preserved : goal.loop-i-preserved
loop-i-preserved c =
    let es = c.args.elements.now in
    let i = c.loop-i.i in
    let e = c.index-elements-i.result in
    elim c.if-is_drawn.branch [
      | then-is_drawn+in_ok-add_element w ↦ grind (arith, common_steps, take_all, length-drop, element_added, es, i, e)
      | else-is_drawn w ↦ grind (arith, common_steps, element_passed, es, i, e)
    ]

pub returns : goal.returns
returns c = record { added = all_added _ _ _ _ _ _ _ (omega (arith, c.loop-i-test.false, c.loop-i.auto.i-end)) c.loop-i.invariant }
