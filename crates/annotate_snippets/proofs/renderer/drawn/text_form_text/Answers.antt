use Rattle.std.proofs.Common.{arith}
use Rattle.std.proofs.lemmas.Grind.{common_steps}
use Rattle.annotate_snippets.proofs.ReportLemmas.{IfOk-both}
use Rattle.annotate_snippets.proofs.TextShown.{form-text, text-under}
use Rattle.annotate_snippets.proofs.renderer.drawn.text_form_text.Goals as goal

pub returns : goal.returns
returns c = grind (arith, common_steps, IfOk-both, text-under, form-text)
