use Rattle.std.proofs.lemmas.Grind.{common_steps}
use Rattle.std.proofs.Common.{append-nil, arith}
use Rattle.redraw_read.proofs.Shown.{none-told}
use Rattle.redraw_read.proofs.rendered.show_child.Goals as goal

pub returns-in_ok-push-clause-told : goal.returns-in_ok-push-clause-told
returns-in_ok-push-clause-told c = grind (arith, common_steps, append-nil, none-told)
