use Rattle.std.proofs.lemmas.Grind.{common_steps}
use Rattle.std.proofs.Common.{arith}
use Rattle.redraw_read.proofs.Targeted.{last-is, last-popped}
use Rattle.redraw_read.proofs.rendered.last_edit.Goals as goal

pub returns : goal.returns
returns c = grind (arith, common_steps, last-is, last-popped, c.in_ok-edits.ensures.items, c.pop-2.ensures.items, c.pop-2.ensures.variant.1)
