use Rattle.std.proofs.lemmas.Grind.{common_steps}
use Rattle.snippet_text_form.proofs.Common.{arith}
use Rattle.snippet_text_form.proofs.LabelForm.{width_of-label}
use Rattle.snippet_text_form.proofs.heading.label_width.Goals as goal

pub returns : goal.returns
returns g c = grind (arith, common_steps, width_of-label)
