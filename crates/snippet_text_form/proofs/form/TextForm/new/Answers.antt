use Rattle.std.proofs.lemmas.Grind.{common_steps}
use Rattle.snippet_text_form.proofs.Common.{string_bytes, arith}
use Rattle.snippet_text_form.proofs.MarkLemmas.{AreMarks-none, pieces-none}
use Rattle.snippet_text_form.proofs.form.TextForm.new.Goals as goal

pub invariant_of-result : goal.invariant_of-result
invariant_of-result c =
    AreMarks-none (string_bytes c.in_ok-with_capacity.field-0) c.in_ok-with_capacity-2.field-0.items c.in_ok-with_capacity-2.ensures.items

pub returns : goal.returns
returns c = grind (arith, common_steps, pieces-none)
