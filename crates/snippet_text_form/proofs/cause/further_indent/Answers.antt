use Rattle.snippet_text_form.proofs.Common.{sym, ap, ◌∙◌, option_copied, further_indent}
use Rattle.snippet_text_form.proofs.CauseLemmas.{two-spaces}
use Rattle.snippet_text_form.proofs.TextLemmas.{chars-space}
use Rattle.snippet_text_form.proofs.cause.further_indent.Goals as goal

pub returns-in-Some : goal.returns-in-Some
returns-in-Some c = record { value = two-spaces ∙ sym (ap (λ path. further_indent (option_copied path)) c.in-Some.is) }

pub returns-in-None : goal.returns-in-None
returns-in-None c = record { value = chars-space ∙ sym (ap (λ path. further_indent (option_copied path)) c.in-None.is) }
