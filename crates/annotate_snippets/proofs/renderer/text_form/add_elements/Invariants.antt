-- The elements so far are added.
use Rattle.annotate_snippets.proofs.Common.{option_copied, before_seen}
use Rattle.annotate_snippets.proofs.FormSteps.{ElementsSoFar}
use Rattle.annotate_snippets.proofs.renderer.text_form.add_elements.Given as goal

abbrev pub invariant-loop-i : goal.invariant-loop-i
invariant-loop-i l =
    ElementsSoFar l.renderer (option_copied l.file) l.elements l.i l.fn.form l.form (before_seen l.before)
