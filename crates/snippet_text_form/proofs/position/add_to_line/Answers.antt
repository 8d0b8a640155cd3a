use Rattle.std.proofs.lemmas.Grind.{common_steps}
use Rattle.snippet_text_form.proofs.Common.{arith}
use Rattle.snippet_text_form.proofs.AddedLemmas.{text-as, text-two, text-two-on_ok}
use Rattle.snippet_text_form.proofs.TextLemmas.{chars-to_line}
use Rattle.snippet_text_form.proofs.position.add_to_line.Goals as goal

pub returns : goal.returns
returns c = grind (arith, common_steps, text-two, text-as, chars-to_line, text-two-on_ok)
