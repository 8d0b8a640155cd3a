use Rattle.std.proofs.Common.{inr, refl}
use Rattle.redraw_run.proofs.run.print_error.Goals as goal

pub returns-in-Err-clause-printed : goal.returns-in-Err-clause-printed
returns-in-Err-clause-printed g c = inr (inr (refl, refl))
