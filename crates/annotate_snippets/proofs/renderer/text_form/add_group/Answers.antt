use Rattle.std.proofs.lemmas.Grind.{common_steps}
use Rattle.annotate_snippets.proofs.Common.{on_ok_weaker, arith}
use Rattle.annotate_snippets.proofs.FormSteps.{group_added, no_title_added, title_added, title_form}
use Rattle.annotate_snippets.proofs.renderer.text_form.add_group.Goals as goal
use Rattle.annotate_snippets.proofs.renderer.text_form.add_group.Goals.{in-Some+in_ok-add_title, in_default}

pub returns : goal.returns
returns c = grind (arith, common_steps, title_form, title_added, in_default, no_title_added, on_ok_weaker, group_added)
