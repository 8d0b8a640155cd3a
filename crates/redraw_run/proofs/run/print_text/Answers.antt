use Rattle.std.proofs.Common.{inl, inr, refl}
use Rattle.redraw_run.proofs.run.print_text.Goals as goal

pub returns-in-Ok-clause-printed : goal.returns-in-Ok-clause-printed
returns-in-Ok-clause-printed g c = inl (c.as_bytes.result.now, c.in-Ok.ensures.writes, refl)

pub returns-in-Err-clause-printed : goal.returns-in-Err-clause-printed
returns-in-Err-clause-printed g c = inr (inl (c.as_bytes.result.now, c.in-Err.ensures.writes.1, refl))
