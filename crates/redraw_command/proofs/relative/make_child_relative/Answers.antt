use Rattle.std.proofs.Common.{get_or, refl, arith}
use Rattle.std.specs.Global.{Vec}
use Rattle.std.specs.Vec.{with_items}
use Rattle.redraw_report.specs.declared.diagnostic.SuggestedEdit.{SuggestedEdit}
use Rattle.redraw_command.specs.Shortened.{AreEditsFrom, IsEditFrom, IsPlaceFrom}
use Rattle.redraw_command.proofs.Shortening.{front_end, front_more, front_none, put_back}
use Rattle.redraw_command.proofs.relative.make_child_relative.Goals as goal

pub loop-edits-init : goal.loop-edits-init
loop-edits-init c = front_none (AreEditsFrom c.args.folder.now) c.deref_mut-edits-items.result.now

pub loop-edits-preserved : goal.loop-edits-preserved
loop-edits-preserved c =
    let folder = c.args.folder.now in
    let index = c.loop-edits.edits-index in
    let now = c.loop-edits.edits-items in
    let old : Vec SuggestedEdit = get_or now index c.edits-item.result in
    let new : Vec SuggestedEdit = with_items old c.make_edits_relative.new.edits in
    let is : AreEditsFrom folder old new
    = put_back (IsEditFrom folder) old.len old.items c.deref_mut-in-loop-edits.result.now c.make_edits_relative.new.edits old.ok.0
    c.deref_mut-in-loop-edits.ensures.value c.in_ok-make_edits_relative.ensures.shown in
    front_more (AreEditsFrom folder) index c.deref_mut-edits-items.result.now now c.edits-item.result new (omega arith) c.loop-edits.invariant is

pub returns : goal.returns
returns c =
    let folder = c.args.folder.now in
    let spans = c.args.child.now.spans in
    let alternatives = c.args.child.now.alternatives in
    let edits = front_end (AreEditsFrom folder) c.loop-edits.edits-index c.deref_mut-edits-items.result.now c.loop-edits.edits-items (omega arith)
    c.loop-edits.invariant in
    record {
      shown = record {
        places = put_back (IsPlaceFrom folder) spans.len spans.items c.deref_mut.result.now c.make_places_relative.new.spans spans.ok.0
            c.deref_mut.ensures.value c.in_ok-make_places_relative.ensures.shown;
        edits = put_back (AreEditsFrom folder) alternatives.len alternatives.items c.deref_mut-edits-items.result.now c.loop-edits.edits-items
            alternatives.ok.0 c.deref_mut-edits-items.ensures.value edits;
        rest = refl;
      };
    }
