use Rattle.std.proofs.Common.{ap, refl}
use Rattle.redraw_run.proofs.Done.{does_left_out}
use Rattle.redraw_run.proofs.draw.Drawing.leave_out.Goals as goal

pub returns-clause-does : goal.returns-clause-does
returns-clause-does g c = λ out err.
    does_left_out refl refl (ap (λ w. record c.args.self.now.tally { wrong = w }) c.saturating_add-self.ensures) refl refl
