use Rattle.std.proofs.lemmas.Grind.{common_steps}
use Rattle.snippet_text_form.proofs.Common.{origin_form, arith}
use Rattle.snippet_text_form.proofs.AddedLemmas.{added-two-on_ok, text-as, text-two-on_ok}
use Rattle.snippet_text_form.proofs.TextLemmas.{chars-space}
use Rattle.snippet_text_form.proofs.origin.add_origin.Goals as goal

pub returns : goal.returns
unfolding origin_form
returns c = grind (arith, common_steps, text-two-on_ok, text-as, chars-space, added-two-on_ok)
