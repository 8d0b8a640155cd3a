use Rattle.std.proofs.lemmas.Grind.{common_steps}
use Rattle.snippet_text_form.proofs.Common.{on_ok_weaker, arith}
use Rattle.snippet_text_form.proofs.AddedLemmas.{added-two, text-two}
use Rattle.snippet_text_form.proofs.SuggestionLemmas.{adds_line}
use Rattle.snippet_text_form.proofs.suggestion.add_patch.Goals as goal

pub returns : goal.returns
returns c = grind (arith, common_steps, text-two, on_ok_weaker, adds_line, added-two)
