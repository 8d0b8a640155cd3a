use Rattle.std.proofs.Common.{alloc_error, refl}
use Rattle.redraw_command.specs.declared.stop.Stop.TheVariants.{Memory}
use Rattle.redraw_run.specs.Fates.{IsShown}
use Rattle.redraw_run.proofs.Doing.{stops_none}
use Rattle.redraw_run.proofs.Done.{does_same}
use Rattle.redraw_run.proofs.Refusing.{left_tally, shown_undrawn}
use Rattle.redraw_run.proofs.draw.Drawing.refuse.Goals as goal

pub returns-in-Memory-clause-does : goal.returns-in-Memory-clause-does
returns-in-Memory-clause-does g c = λ form files undrawn out.
    stops_none (IsShown c.args.diagnostic.now) Memory refl (does_same refl refl refl refl refl)

pub returns-in_default-clause-left_out : goal.returns-in_default-clause-left_out
returns-in_default-clause-left_out g c = (c.in_default.not-Memory alloc_error, left_tally _ _ c.leave_out.ensures.counted)

pub returns-in_default-clause-does : goal.returns-in_default-clause-does
returns-in_default-clause-does g c = λ form files undrawn out.
    shown_undrawn c.args.diagnostic.now c.args.error.now files _ _ out _ _ form c.in_default.not-Memory undrawn c.leave_out.ensures.counted
    c.tell.ensures.told
