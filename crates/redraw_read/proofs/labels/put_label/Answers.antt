use Rattle.std.proofs.Common.{arith}
use Rattle.std.proofs.lemmas.Grind.{common_steps}
use Rattle.redraw_read.proofs.Targeted.{label-past, label-set}
use Rattle.redraw_read.proofs.labels.put_label.Goals as goal

pub returns-in-Some-get_mut : goal.returns-in-Some-get_mut
returns-in-Some-get_mut c = grind (arith, common_steps, label-set, c.in-Some-get_mut.ensures.item, c.in-Some.is)

pub returns-in_default : goal.returns-in_default
returns-in_default c = grind (arith, common_steps, label-past, c.in_default.ensures.item.3, c.in-Some.is)
