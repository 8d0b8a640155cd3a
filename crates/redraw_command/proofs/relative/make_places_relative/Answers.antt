use Rattle.std.proofs.Common.{get_or, refl, arith}
use Rattle.redraw_report.specs.declared.diagnostic.FileSpan.{FileSpan}
use Rattle.redraw_command.specs.Shortened.{IsPlaceFrom}
use Rattle.redraw_command.proofs.Shortening.{front_end, front_more, front_none}
use Rattle.redraw_command.proofs.relative.make_places_relative.Goals as goal

pub loop-span-init : goal.loop-span-init
loop-span-init c = front_none (IsPlaceFrom c.args.folder.now) c.args.spans.now

pub loop-span-preserved : goal.loop-span-preserved
loop-span-preserved c =
    let folder = c.args.folder.now in
    let index = c.loop-span.span-index in
    let old : FileSpan = get_or c.loop-span.spans index c.span-item.result in
    let new : FileSpan = record old { file = c.shorten.new.path } in
    let is : IsPlaceFrom folder old new = record { path = c.in_ok-shorten.ensures.shown; rest = refl } in
    front_more (IsPlaceFrom folder) index c.args.spans.now c.loop-span.spans c.span-item.result new (omega arith) c.loop-span.invariant is

pub returns : goal.returns
returns c =
    let folder = c.args.folder.now in
    record { shown = front_end (IsPlaceFrom folder) c.loop-span.span-index c.args.spans.now c.loop-span.spans (omega arith) c.loop-span.invariant }
