use Rattle.std.proofs.Common.{refl, arith}
use Rattle.redraw_command.specs.Shortened.{IsChildFrom, IsPlaceFrom}
use Rattle.redraw_command.proofs.Shortening.{front_end, front_more, front_none, put_back}
use Rattle.redraw_command.proofs.relative.make_relative.Goals as goal

pub loop-child-init : goal.loop-child-init
loop-child-init c = front_none (IsChildFrom c.args.folder.now) c.deref_mut-child-items.result.now

pub loop-child-preserved : goal.loop-child-preserved
loop-child-preserved c =
    front_more (IsChildFrom c.args.folder.now) c.loop-child.child-index c.deref_mut-child-items.result.now c.loop-child.child-items c.child-item.result
    c.make_child_relative.new.child (omega arith) c.loop-child.invariant c.in_ok-make_child_relative.ensures.shown

pub returns : goal.returns
returns c =
    let folder = c.args.folder.now in
    let spans = c.args.diagnostic.now.spans in
    let all = c.args.diagnostic.now.children in
    let children = front_end (IsChildFrom folder) c.loop-child.child-index c.deref_mut-child-items.result.now c.loop-child.child-items (omega arith)
    c.loop-child.invariant in
    record {
      shown = record {
        places = put_back (IsPlaceFrom folder) spans.len spans.items c.deref_mut.result.now c.make_places_relative.new.spans spans.ok.0
            c.deref_mut.ensures.value c.in_ok-make_places_relative.ensures.shown;
        children = put_back (IsChildFrom folder) all.len all.items c.deref_mut-child-items.result.now c.loop-child.child-items all.ok.0
            c.deref_mut-child-items.ensures.value children;
        rest = refl;
      };
    }
