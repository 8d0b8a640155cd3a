use Rattle.std.proofs.lemmas.Grind.{common_steps}
use Rattle.snippet_text_form.proofs.Common.{eq-eqb, cond-false, cond-true, ne_eqb, arith, on_ok_weaker}
use Rattle.snippet_text_form.proofs.AddedLemmas.{text-as, text-two}
use Rattle.snippet_text_form.proofs.TextLemmas.{chars-to_column}
use Rattle.snippet_text_form.proofs.suggestion.add_end.Goals as goal

pub returns-then-start-end : goal.returns-then-start-end
returns-then-start-end c = grind (arith, common_steps, on_ok_weaker, text-two, text-as, chars-to_column, cond-true, eq-eqb)

pub returns : goal.returns
returns c = grind (arith, common_steps, on_ok_weaker, cond-false, ne_eqb)
