use Rattle.std.proofs.lemmas.Grind.{common_steps}
use Rattle.snippet_text_form.proofs.Common.{cond-false, ne_eqb, on_ok_weaker, arith}
use Rattle.snippet_text_form.proofs.cause.add_end_on_line.Goals as goal

pub returns : goal.returns
returns c = grind (arith, common_steps, cond-false, ne_eqb, on_ok_weaker)
