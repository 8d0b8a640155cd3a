use Rattle.snippet_window.proofs.Common.{common_steps, arith}
use Rattle.snippet_window.proofs.extent.label_end.Goals as goal

pub returns-in-Some : goal.returns-in-Some
returns-in-Some c = grind (arith, common_steps, c.saturating_add.ensures, c.str_width.ensures.value, c.in-Some.is, c.text.ensures.value)
