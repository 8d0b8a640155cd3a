use Rattle.annotate_snippets.proofs.Common.{◌+◌, arith, map, option_copied, HasRoomFor, IsElementPrepared, PreparedElement, element_of}
use Rattle.annotate_snippets.proofs.ElementRows.{all_at, drawn_none, each_drawn, left_all, one_drawn, passed, stands_there}
use Rattle.annotate_snippets.proofs.renderer.elements.draw_elements.Goals as goal

pub loop-element-init : goal.loop-element-init
loop-element-init c = record {
  passed = 0;
  left = left_all c.args.elements.items c.from-left.result.items c.new-walk.result c.from-left.ensures.0 c.new-walk.ensures.begun;
  drawn = drawn_none c.args.renderer.now c.args.group.now.layout c.args.group.now.place (option_copied c.args.group.now.file)
      (map element_of c.args.elements.items) c.args.buffer.now;
}

pub draw_element-requires : goal.draw_element-requires
draw_element-requires c =
    let turn = passed _ _ _ _ _ c.loop-element.invariant.passed _ _ _ _ _ c.loop-element.invariant.left c.in-Some.ensures.items c.front.ensures.item
    c.pass-around.ensures.around c.pass-around.ensures.walked in
    let ps = c.args.elements.items in
    let n = c.loop-element.invariant.passed in
    record {
      prepared = all_at IsElementPrepared ps n c.in-Some.element c.requires.prepared turn.here;
      room = all_at (λ (p : PreparedElement). HasRoomFor c.args.renderer.now c.args.group.now.layout (element_of p)) ps n _ c.requires.room turn.here;
      around = stands_there c.args.group.now.place (option_copied c.args.group.now.file) ps n c.in-Some.element c.pass-around.result turn.here turn.at_is;
    }

pub loop-element-preserved : goal.loop-element-preserved
loop-element-preserved c =
    let turn = passed c.args.group.now.place (option_copied c.args.group.now.file) c.args.elements.items c.loop-element.left.items c.pop_front.new.self.items
    c.loop-element.invariant.passed c.loop-element.walk c.pass-around.new.self c.in-Some.element c.front.result c.pass-around.result
    c.loop-element.invariant.left c.in-Some.ensures.items c.front.ensures.item c.pass-around.ensures.around c.pass-around.ensures.walked in
    let n = c.loop-element.invariant.passed in
    record {
      passed = n + 1;
      left = turn.left;
      drawn = one_drawn c.args.renderer.now c.args.group.now.layout c.args.group.now.place (option_copied c.args.group.now.file) c.args.elements.items n
          c.in-Some.element c.pass-around.result c.args.buffer.now c.loop-element.buffer c.draw_element.new.buffer turn.here turn.at_is
          c.loop-element.invariant.drawn c.in_ok-draw_element.ensures.rows;
    }

pub returns : goal.returns
returns c = record {
  rows = each_drawn c.args.renderer.now c.args.group.now.layout c.args.group.now.place (option_copied c.args.group.now.file) c.args.elements.items
      c.loop-element.left.items c.loop-element.invariant.passed c.loop-element.walk c.args.buffer.now c.loop-element.buffer c.loop-element.invariant.left
      (omega (arith, (rw c.in_default.is at c.pop_front.ensures.cases).0, c.loop-element.left.ok.0)) c.loop-element.invariant.drawn;
}
