use Rattle.std.proofs.Common.{get_or, refl, arith}
use Rattle.redraw_report.specs.declared.diagnostic.FileSpan.{FileSpan}
use Rattle.redraw_command.proofs.Shortening.{front_end, front_more, front_none}
use Rattle.redraw_run.specs.Marked.{IsPlaceMarked}
use Rattle.redraw_run.proofs.word.mark_places.Goals as goal

pub loop-span-init : goal.loop-span-init
loop-span-init g c = front_none IsPlaceMarked c.args.spans.now

pub loop-span-preserved : goal.loop-span-preserved
loop-span-preserved g c =
    let index = c.loop-span.span-index in
    let old : FileSpan = get_or c.loop-span.spans index c.span-item.result in
    let new : FileSpan = record old { region = c.marked_part-span.result } in
    front_more IsPlaceMarked index c.args.spans.now c.loop-span.spans c.span-item.result new (omega arith) c.loop-span.invariant refl

pub returns : goal.returns
returns g c = record { marked = front_end IsPlaceMarked c.loop-span.span-index c.args.spans.now c.loop-span.spans (omega arith) c.loop-span.invariant }
