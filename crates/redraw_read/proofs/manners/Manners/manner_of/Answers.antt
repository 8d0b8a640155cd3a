use Rattle.std.proofs.Common.{arith}
use Rattle.std.proofs.lemmas.Grind.{common_steps}
use Rattle.redraw_read.proofs.manners.Manners.manner_of.Goals as goal

pub invariant_of-self-2 : goal.invariant_of-self-2
invariant_of-self-2 c = grind (arith, common_steps, c.keep.ensures.kept, c.manner_of-manner.ensures.value, c.in-Some.is)
