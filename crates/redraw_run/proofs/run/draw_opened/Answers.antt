use Rattle.std.specs.Prelude.{Err, None, Some}
use Rattle.redraw_command.specs.declared.stop.Stop.TheVariants.{Unreadable}
use Rattle.redraw_run.specs.Deeds.{standing}
use Rattle.redraw_run.proofs.Gone.{came, came_unread, ended, held_err, held_ok}
use Rattle.output_stream.specs.Standing.{known}
use Rattle.redraw_run.proofs.run.draw_opened.Goals as goal

pub returns-in-Ok : goal.returns-in-Ok
returns-in-Ok g c =
    let held = g.B.Read.remaining c.in-Ok.input in
    let all = held_ok g.B.Read.remaining c.args.input c.in-Ok.input c.end_input.result _ _ c.in-Ok.is
    (ended c.draw_input.result c.end_input.result (Some held) _ _ _
    (came c.draw_input.result held _ _ c.draw_input.ensures.reads c.draw_input.ensures.halts) c.end_input.ensures.ends) in
    record { drawn = all.0; cut = all.1 }

pub returns-in-Err : goal.returns-in-Err
returns-in-Err g c =
    let s = standing c.args.drawing.now (known g.W.Write.contents c.args.out.now) (known g.V.Write.contents c.args.err.now) in
    let all = held_err g.B.Read.remaining c.args.input c.in-Err.error c.end_input-in-Err.result _ _ c.in-Err.is
    (ended (Err (Unreadable c.in-Err.error)) c.end_input-in-Err.result None _ s s (came_unread c.in-Err.error s) c.end_input-in-Err.ensures.ends) in
    record { drawn = all.0; cut = all.1 }
