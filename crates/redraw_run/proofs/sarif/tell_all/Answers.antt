use Rattle.redraw_run.proofs.Done.{tells_none, tells_one, tells_then}
use Rattle.redraw_run.proofs.sarif.tell_all.Goals as goal

pub loop-line-init : goal.loop-line-init
loop-line-init g c = tells_none _

pub loop-line-preserved : goal.loop-line-preserved
loop-line-preserved g c = tells_then c.loop-line.invariant (tells_one c.tell.ensures.told)
