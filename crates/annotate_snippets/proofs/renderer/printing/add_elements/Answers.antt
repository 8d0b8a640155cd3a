use Rattle.annotate_snippets.proofs.Common.{◌∙◌, ◌+◌, ap, arith, refl, option_copied, HasRoomFor, IsElementPrepared, PreparedElement, element_of, Printing}
use Rattle.annotate_snippets.proofs.ElementRows.{all_at, left_all, passed, stands_there}
use Rattle.annotate_snippets.proofs.PrintingLemmas.{elements_all, elements_drawn, elements_none, elements_printed}
use Rattle.annotate_snippets.proofs.renderer.printing.add_elements.Goals as goal

pub loop-element-init : goal.loop-element-init
loop-element-init c =
    record {
      level = refl;
      passed = 0;
      left = left_all c.args.elements.items c.from-left.result.items c.new-walk.result c.from-left.ensures.0 c.new-walk.ensures.begun;
      printed = λ old above printing. elements_none _ _ _ _ _ _ _ above old _ printing;
    }

pub draw_element-requires : goal.draw_element-requires
draw_element-requires c =
    let turn = passed _ _ _ _ _ c.loop-element.invariant.passed _ _ _ _ _ c.loop-element.invariant.left c.in-Some.ensures.items c.front.ensures.item
    c.pass-place.ensures.around c.pass-place.ensures.walked in
    let ps = c.args.elements.items in
    let n = c.loop-element.invariant.passed in
    record {
      prepared = all_at IsElementPrepared ps n c.in-Some.element c.requires.prepared turn.here;
      room = all_at (λ (p : PreparedElement). HasRoomFor c.args.renderer.now c.args.group.now.layout (element_of p)) ps n _ c.requires.room turn.here;
      around = stands_there c.args.group.now.place (option_copied c.args.group.now.file) ps n c.in-Some.element c.pass-place.result turn.here turn.at_is;
    }

pub loop-element-preserved-in_ok-add_message-3 : goal.loop-element-preserved-in_ok-add_message-3
loop-element-preserved-in_ok-add_message-3 c =
    let turn = passed _ _ _ _ _ c.loop-element.invariant.passed _ _ _ _ _ c.loop-element.invariant.left c.in-Some.ensures.items c.front.ensures.item
    c.pass-place.ensures.around c.pass-place.ensures.walked in
    let n = c.loop-element.invariant.passed in
    record {
      level = c.in_ok-add_message.ensures.level ∙ c.loop-element.invariant.level;
      passed = n + 1;
      left = turn.left;
      printed = λ old above printing. elements_printed _ _ _ _ _ _ _ _ n _ _ _ _ above old _ _ turn.here turn.at_is (ap element_of c.in-Message.is)
          c.message_style-style.ensures.value c.loop-element.invariant.level (λ rows. c.in_ok-add_message.ensures.printed old rows)
          (c.loop-element.invariant.printed old above printing);
    }

pub loop-element-preserved : goal.loop-element-preserved
loop-element-preserved c =
    let turn = passed _ _ _ _ _ c.loop-element.invariant.passed _ _ _ _ _ c.loop-element.invariant.left c.in-Some.ensures.items c.front.ensures.item
    c.pass-place.ensures.around c.pass-place.ensures.walked in
    let n = c.loop-element.invariant.passed in
    let page = c.loop-element.page in
    let after : Printing = record { level = page.level; text = page.text; begun = page.begun; buffer = c.draw_element.new.buffer } in
    record {
      level = c.loop-element.invariant.level;
      passed = n + 1;
      left = turn.left;
      printed = λ old above printing. elements_drawn _ _ _ _ _ _ _ n _ _ above old page after turn.here turn.at_is refl refl c.in_ok-draw_element.ensures.rows
          (c.loop-element.invariant.printed old above printing);
    }

pub returns-clause-printed : goal.returns-clause-printed
returns-clause-printed c = λ old above printing.
    elements_all _ _ _ _ _ _ _ _ _ c.loop-element.invariant.passed _ above old _ _ c.loop-element.invariant.left
    (omega (arith, (rw c.in_default.is at c.pop_front.ensures.cases).0, c.loop-element.left.ok.0)) c.loop-element.invariant.level
    (λ rows. c.in_ok-flush.ensures.printed old rows) c.in_ok-flush.ensures.empty (c.loop-element.invariant.printed old above printing)
