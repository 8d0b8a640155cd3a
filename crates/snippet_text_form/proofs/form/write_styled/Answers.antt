use Rattle.std.proofs.lemmas.Grind.{common_steps}
use Rattle.snippet_text_form.proofs.Common.{encode_utf8_all, on_ok_weaker, arith}
use Rattle.snippet_text_form.proofs.FormSteps.{styled_added}
use Rattle.snippet_text_form.proofs.form.write_styled.Goals as goal

pub returns : goal.returns
returns c = grind (arith, common_steps, encode_utf8_all, on_ok_weaker, styled_added)
