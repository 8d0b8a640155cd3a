use Rattle.std.proofs.lemmas.Grind.{common_steps}
use Rattle.snippet_text_form.proofs.Common.{arith}
use Rattle.snippet_text_form.proofs.LabelForm.{heading-added}
use Rattle.snippet_text_form.proofs.heading.add_heading.Goals as goal

pub returns : goal.returns
returns g c = grind (arith, common_steps, heading-added)
