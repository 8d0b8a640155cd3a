use Rattle.std.proofs.Common.{refl, arith}
use Rattle.redraw_command.proofs.Shortening.{front_end, front_more, front_none, put_back}
use Rattle.redraw_run.specs.Marked.{IsChildMarked, IsPlaceMarked}
use Rattle.redraw_run.proofs.word.mark_words.Goals as goal

pub loop-child-init : goal.loop-child-init
loop-child-init g c = front_none IsChildMarked c.deref_mut-child-items.result.now

pub loop-child-preserved : goal.loop-child-preserved
loop-child-preserved g c =
    front_more IsChildMarked c.loop-child.child-index c.deref_mut-child-items.result.now c.loop-child.child-items c.child-item.result
    c.mark_child.new.child (omega arith) c.loop-child.invariant c.mark_child.ensures.marked

pub returns : goal.returns
returns g c =
    let spans = c.args.finding.now.spans in
    let all = c.args.finding.now.children in
    let children = front_end IsChildMarked c.loop-child.child-index c.deref_mut-child-items.result.now c.loop-child.child-items (omega arith)
    c.loop-child.invariant in
    record {
      marked = record {
        places = put_back IsPlaceMarked spans.len spans.items c.deref_mut.result.now c.mark_places.new.spans spans.ok.0
            c.deref_mut.ensures.value c.mark_places.ensures.marked;
        children = put_back IsChildMarked all.len all.items c.deref_mut-child-items.result.now c.loop-child.child-items all.ok.0
            c.deref_mut-child-items.ensures.value children;
        rest = refl;
      };
    }
