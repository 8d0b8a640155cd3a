use Rattle.std.proofs.Common.{get_or, refl, arith}
use Rattle.redraw_report.specs.declared.diagnostic.SuggestedEdit.{SuggestedEdit}
use Rattle.redraw_command.specs.Shortened.{IsEditFrom}
use Rattle.redraw_command.proofs.Shortening.{front_end, front_more, front_none}
use Rattle.redraw_command.proofs.relative.make_edits_relative.Goals as goal

pub loop-edit-init : goal.loop-edit-init
loop-edit-init c = front_none (IsEditFrom c.args.folder.now) c.args.edits.now

pub loop-edit-preserved : goal.loop-edit-preserved
loop-edit-preserved c =
    let folder = c.args.folder.now in
    let index = c.loop-edit.edit-index in
    let old : SuggestedEdit = get_or c.loop-edit.edits index c.edit-item.result in
    let new : SuggestedEdit = record old { file = c.shorten.new.path } in
    let is : IsEditFrom folder old new = record { path = c.in_ok-shorten.ensures.shown; rest = refl } in
    front_more (IsEditFrom folder) index c.args.edits.now c.loop-edit.edits c.edit-item.result new (omega arith) c.loop-edit.invariant is

pub returns : goal.returns
returns c =
    let folder = c.args.folder.now in
    record { shown = front_end (IsEditFrom folder) c.loop-edit.edit-index c.args.edits.now c.loop-edit.edits (omega arith) c.loop-edit.invariant }
