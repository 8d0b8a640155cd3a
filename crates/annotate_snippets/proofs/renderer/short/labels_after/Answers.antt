use Rattle.annotate_snippets.proofs.Common.{◌∙◌, ap, sym, option_copied, chars-nil, labels_of_cause}
use Rattle.std.proofs.Common.{chars}
use Rattle.annotate_snippets.proofs.renderer.short.labels_after.Goals as goal

pub returns-in-None : goal.returns-in-None
returns-in-None c = record { value = ap chars c.new.ensures.bytes ∙ chars-nil ∙ sym (ap (λ cause. labels_of_cause (option_copied cause)) c.in-None.is) }
