use Rattle.std.proofs.lemmas.Grind.{common_steps}
use Rattle.snippet_text_form.proofs.Common.{arith}
use Rattle.snippet_text_form.proofs.CauseLemmas.{further-none, further-one}
use Rattle.snippet_text_form.proofs.cause.add_further_span.Goals as goal

pub returns-in_ok-add_span : goal.returns-in_ok-add_span
returns-in_ok-add_span c = grind (arith, common_steps, further-one)

pub returns-else-is_shown : goal.returns-else-is_shown
returns-else-is_shown c = grind (arith, common_steps, further-none)
