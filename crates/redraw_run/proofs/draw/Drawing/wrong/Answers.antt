use Rattle.std.proofs.Common.{refl}
use Rattle.redraw_run.proofs.Done.{does_told, does_wrong}
use Rattle.redraw_run.proofs.draw.Drawing.wrong.Goals as goal

pub returns-clause-does : goal.returns-clause-does
returns-clause-does g c = λ out. does_wrong (c.leave_out.ensures.does out _) (does_told c.tell.ensures.told refl refl refl refl)
