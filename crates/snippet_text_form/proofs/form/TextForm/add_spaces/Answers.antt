use Rattle.std.proofs.lemmas.Grind.{common_steps}
use Rattle.snippet_text_form.proofs.Common.{on_ok_weaker, IsUtf8-string_bytes, arith}
use Rattle.snippet_text_form.proofs.FormSteps.{chars-spaces}
use Rattle.snippet_text_form.proofs.MarkLemmas.{AreMarks-grown, pieces-text}
use Rattle.snippet_text_form.proofs.form.TextForm.add_spaces.Goals as goal

pub invariant_of-self : goal.invariant_of-self
invariant_of-self c = AreMarks-grown _ _ 0 _ c.write_spaces.ensures.grown c.self.invariant

pub returns : goal.returns
returns c = grind (arith, common_steps, on_ok_weaker, pieces-text, IsUtf8-string_bytes, chars-spaces)
