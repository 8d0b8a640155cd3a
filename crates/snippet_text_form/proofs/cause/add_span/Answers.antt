use Rattle.std.proofs.lemmas.Grind.{common_steps}
use Rattle.snippet_text_form.proofs.Common.{arith}
use Rattle.std.specs.Str.{chars}
use Rattle.snippet_text_form.proofs.CauseLemmas.{span-labelled, span-plain}
use Rattle.snippet_text_form.proofs.cause.add_span.Goals as goal

pub returns-in_ok-add_shown : goal.returns-in_ok-add_shown
unfolding chars
returns-in_ok-add_shown c = grind (arith, common_steps, span-labelled)

pub returns-else-is_shown : goal.returns-else-is_shown
returns-else-is_shown c = grind (arith, common_steps, span-plain)
