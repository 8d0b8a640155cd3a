use Rattle.std.proofs.Common.{◌∙◌, map}
use Rattle.redraw_read.specs.AsShown.{child_seen}
use Rattle.redraw_read.proofs.Shown.{shown-next, told-next}
use Rattle.redraw_read.specs.Labels.{label_seen}
use Rattle.redraw_read.proofs.rendered.shown_children.Goals as goal

pub loop-child-preserved : goal.loop-child-preserved
loop-child-preserved c = record {
  text = c.show_child.ensures.text ∙ c.loop-child.invariant.text;
  each = shown-next c.args.manners.now.text.now c.loop-child.yielded c.in-Some.child (map child_seen c.loop-child.shown.items)
      (map child_seen c.show_child.new.shown.items) c.loop-child.invariant.each
      (rw c.loop-child.invariant.text at c.in_ok-show_child.ensures.added);
  told = told-next c.args.manners.now.text.now c.loop-child.yielded c.in-Some.child (map label_seen c.args.told.now.items)
      (map label_seen c.loop-child.told.items) (map label_seen c.show_child.new.told.items)
      c.loop-child.invariant.told (rw c.loop-child.invariant.text at c.in_ok-show_child.ensures.told);
}
