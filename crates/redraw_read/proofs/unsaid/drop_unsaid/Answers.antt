use Rattle.std.proofs.lemmas.Grind.{common_steps}
use Rattle.std.proofs.Common.{append_assoc, arith}
use Rattle.redraw_read.proofs.unsaid.drop_unsaid.Goals as goal

pub loop-span-preserved : goal.loop-span-preserved
loop-span-preserved c = grind (arith, common_steps, append_assoc, c.loop-span.invariant, c.in_ok-last_after.ensures.next)
