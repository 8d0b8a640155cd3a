use Rattle.std.proofs.Common.{[], append-nil, sym}
use Rattle.redraw_run.proofs.Done.{ok_written, writes_then}
use Rattle.redraw_run.proofs.write.pass.Goals as goal

pub returns-in-Ok-clause-writes : goal.returns-in-Ok-clause-writes
returns-in-Ok-clause-writes g c = writes_then _ _ _ c.flush.result _ [] _ (sym (append-nil _)) c.in-Ok.ensures.writes c.flush.ensures.writes

pub returns-in-Ok-clause-passed : goal.returns-in-Ok-clause-passed
returns-in-Ok-clause-passed g c =
    ok_written _ _ c.flush.result _ (writes_then _ _ _ c.flush.result _ [] _ (sym (append-nil _)) c.in-Ok.ensures.writes c.flush.ensures.writes)
