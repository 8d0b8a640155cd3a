-- The text is that of what stands before the marks that are left.
use Rattle.snippet_text_form.proofs.Common.{drop, string_bytes}
use Rattle.snippet_text_form.proofs.FormSteps.{IsRenderedTo}
use Rattle.snippet_text_form.proofs.form.TextForm.render.Given as goal

abbrev pub invariant-loop-mark : goal.invariant-loop-mark
invariant-loop-mark l = IsRenderedTo l.sheet l.self l.text (drop l.mark-index l.mark-items) l.from (string_bytes l.out)
