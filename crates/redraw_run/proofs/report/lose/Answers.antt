use Rattle.std.proofs.Common.{refl}
use Rattle.redraw_command.specs.declared.stop.Stop.TheVariants.{Memory}
use Rattle.redraw_run.specs.Fates.{IsErrorLost}
use Rattle.redraw_run.proofs.Doing.{does_nothing, does_then, stops_none}
use Rattle.redraw_run.proofs.Done.{does_failed}
use Rattle.redraw_run.proofs.report.lose.Goals as goal

pub returns-in_default : goal.returns-in_default
returns-in_default g c = record { does = λ out. does_then (c.wrong.ensures.does out) (does_failed refl refl refl refl refl) }

pub returns-in-Memory : goal.returns-in-Memory
returns-in-Memory g c = record { does = λ out. stops_none IsErrorLost Memory refl (does_nothing _) }
