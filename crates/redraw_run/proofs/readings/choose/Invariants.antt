use Rattle.redraw_run.proofs.Chosen.{NoneMeant}
use Rattle.redraw_run.proofs.readings.choose.Given as goal

-- none of the readings that were tried is meant
abbrev pub invariant-loop-reading : goal.invariant-loop-reading
invariant-loop-reading g l = NoneMeant l.look l.text l.first
