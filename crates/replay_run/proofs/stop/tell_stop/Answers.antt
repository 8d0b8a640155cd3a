use Rattle.std.proofs.Common.{inr}
use Rattle.replay_run.proofs.stop.tell_stop.Goals as goal

pub returns-in-Err : goal.returns-in-Err
returns-in-Err g c = record { told = inr c.write_line-in-Err.ensures.told }
