use Rattle.std.proofs.lemmas.Grind.{common_steps}
use Rattle.snippet_text_form.proofs.Common.{cond-false, ne_eqb, on_ok_weaker, arith}
use Rattle.std.specs.Str.{chars}
use Rattle.snippet_text_form.proofs.CauseLemmas.{bare-four}
use Rattle.snippet_text_form.proofs.cause.add_end_in_file.Goals as goal

pub returns : goal.returns
unfolding chars
returns c = grind (arith, common_steps, cond-false, ne_eqb, on_ok_weaker, bare-four)
