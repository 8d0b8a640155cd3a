use Rattle.std.proofs.lemmas.Grind.{common_steps}
use Rattle.snippet_text_form.proofs.Common.{arith}
use Rattle.snippet_text_form.proofs.AddedLemmas.{text-as, text-two}
use Rattle.snippet_text_form.proofs.SplitForm.{before_line-later}
use Rattle.snippet_text_form.proofs.TextLemmas.{chars-feed}
use Rattle.snippet_text_form.proofs.heading.begin_line.Goals as goal

pub returns : goal.returns
returns g c = grind (arith, common_steps, text-two, text-as, chars-feed, before_line-later)
