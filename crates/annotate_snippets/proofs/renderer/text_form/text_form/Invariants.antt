-- The groups so far are added.
use Rattle.annotate_snippets.proofs.Common.{◌≡◌, take}
use Rattle.annotate_snippets.proofs.FormSteps.{groups_form}
use Rattle.annotate_snippets.proofs.renderer.text_form.text_form.Given as goal

abbrev pub invariant-loop-group : goal.invariant-loop-group
invariant-loop-group l = l.form ≡ groups_form l.renderer l.groups (take l.group-index l.groups)
