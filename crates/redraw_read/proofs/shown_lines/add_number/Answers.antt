use Rattle.std.proofs.Common.{arith}
use Rattle.std.proofs.lemmas.Grind.{common_steps}
use Rattle.redraw_read.proofs.LineNumbers.{none_first, number_push}
use Rattle.redraw_read.proofs.shown_lines.add_number.Goals as goal

pub returns-in_ok-add_new : goal.returns-in_ok-add_new
returns-in_ok-add_new c = grind (arith, common_steps, number_push, c.in-Some.ensures.value, c.in_ok-add_new.ensures.added)

pub returns-in_default : goal.returns-in_default
returns-in_default c = grind (arith, common_steps, none_first, number_push, c.in_default.ensures.value)
