use Rattle.std.proofs.Common.{arith}
use Rattle.snippet_text_form.proofs.AddedLemmas.{text-as-on_ok}
use Rattle.snippet_text_form.proofs.TextLemmas.{chars-anonymized}
use Rattle.snippet_text_form.proofs.position.add_line.Goals as goal

pub returns-then-anonymized : goal.returns-then-anonymized
returns-then-anonymized c = grind (arith, text-as-on_ok, chars-anonymized, c.if-anonymized.true, c.add_text.result, c.add_text.ensures.added)
