use Rattle.std.proofs.lemmas.Grind.{common_steps}
use Rattle.snippet_text_form.proofs.Common.{arith}
use Rattle.snippet_text_form.proofs.AddedLemmas.{text-as, text-two-on_ok}
use Rattle.snippet_text_form.proofs.TextLemmas.{chars-column}
use Rattle.snippet_text_form.proofs.position.add_column.Goals as goal

pub returns : goal.returns
returns c = grind (arith, common_steps, text-two-on_ok, text-as, chars-column)
