use Rattle.std.proofs.Common.{inr, refl}
use Rattle.redraw_run.proofs.Doing.{does_as}
use Rattle.redraw_run.proofs.Done.{does_same}
use Rattle.redraw_run.proofs.draw.Drawing.compare.Goals as goal

pub returns-in-None-clause-does : goal.returns-in-None-clause-does
returns-in-None-clause-does g c = λ form err. does_as (λ ds h. inr h) (does_same refl refl refl refl refl)
