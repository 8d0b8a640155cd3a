use Rattle.std.proofs.lemmas.Grind.{common_steps}
use Rattle.snippet_text_form.proofs.Common.{append-nil, arith}
use Rattle.snippet_text_form.proofs.AddedLemmas.{text-as, text-two}
use Rattle.snippet_text_form.proofs.TextLemmas.{chars-after}
use Rattle.snippet_text_form.proofs.position.add_after_path.Goals as goal

pub returns-in_ok-add_number : goal.returns-in_ok-add_number
returns-in_ok-add_number c = grind (arith, common_steps, text-two, text-as, chars-after)

pub returns-in_default-column : goal.returns-in_default-column
returns-in_default-column c = grind (arith, common_steps, text-two, text-as, chars-after, append-nil)
