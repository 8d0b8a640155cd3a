use Rattle.snippet_text_form.proofs.Common.{sym, ap, ◌∙◌, chars-nil, cow_str_bytes, option_map, normalized_chars}
use Rattle.snippet_text_form.proofs.cause.label_of.Goals as goal

pub returns-in-None : goal.returns-in-None
returns-in-None c =
    record { value = chars-nil ∙ sym (ap (λ label. normalized_chars (option_map cow_str_bytes label)) c.in-None.is) }
