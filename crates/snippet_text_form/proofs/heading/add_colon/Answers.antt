use Rattle.std.proofs.Common.{arith}
use Rattle.std.proofs.lemmas.Grind.{common_steps}
use Rattle.snippet_text_form.proofs.LabelForm.{colon_named, colon_set}
use Rattle.snippet_text_form.proofs.heading.add_colon.Goals as goal
use Rattle.snippet_text_form.proofs.heading.add_colon.Goals.{else-hidden-via-then-hidden+else-not-is_set}

pub returns : goal.returns
returns c = grind (arith, common_steps, colon_set, colon_named)
