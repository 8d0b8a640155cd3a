use Rattle.std.proofs.Common.{refl}
use Rattle.redraw_run.proofs.Done.{does_tell_all, tells_then}
use Rattle.redraw_run.proofs.draw.Drawing.tell_inexact.Goals as goal

pub returns-clause-does : goal.returns-clause-does
returns-clause-does g c = λ out. does_tell_all (tells_then c.tell_count.ensures.told c.tell_count-2.ensures.told) refl refl refl refl

pub returns-clause-each : goal.returns-clause-each
returns-clause-each g c = (_, c.tell_count.ensures.one, c.tell_count-2.ensures.one)
