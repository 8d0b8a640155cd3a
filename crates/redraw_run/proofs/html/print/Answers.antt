use Rattle.std.proofs.Common.{[], ◌∙◌, append-nil, subst, sym}
use Rattle.output_stream.specs.Standing.{BreaksOff}
use Rattle.redraw_run.proofs.Done.{prints_then}
use Rattle.redraw_run.proofs.html.print.Goals as goal

pub returns-in-Ok : goal.returns-in-Ok
returns-in-Ok g c =
    record { prints = prints_then _ _ _ c.flush.result _ [] _ (sym c.as_bytes.ensures.value ∙ sym (append-nil _)) c.in-Ok.ensures.whole c.flush.ensures.prints }

pub returns-in-Err : goal.returns-in-Err
returns-in-Err g c = record { prints = subst (BreaksOff _ _) c.as_bytes.ensures.value c.in-Err.ensures.cut.broken }
