use Rattle.std.proofs.Common.{arith}
use Rattle.std.proofs.lemmas.Grind.{common_steps}
use Rattle.redraw_read.proofs.Indexed.{file_found}
use Rattle.redraw_read.proofs.hand.source_of.Goals as goal

pub returns-in-Some : goal.returns-in-Some
returns-in-Some c = grind (arith, common_steps, file_found, c.source_at.ensures.value, c.in-Some.ensures.value)

pub returns-in-None : goal.returns-in-None
returns-in-None c = grind (arith, common_steps, file_found, c.in-None.ensures.value)
