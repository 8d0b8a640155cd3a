use Rattle.std.proofs.lemmas.Grind.{common_steps}
use Rattle.snippet_text_form.proofs.Common.{arith}
use Rattle.snippet_text_form.proofs.LabelForm.{id-width}
use Rattle.snippet_text_form.proofs.heading.id_width.Goals as goal

pub returns-in-Some-id-clause-value : goal.returns-in-Some-id-clause-value
returns-in-Some-id-clause-value c = grind (arith, common_steps, id-width)
