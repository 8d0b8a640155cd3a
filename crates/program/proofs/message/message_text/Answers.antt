use Rattle.std.proofs.Common.{ap, chars, ◌∙◌}
use Rattle.std.proofs.lemmas.Result.{IfOk-weaker}
use Rattle.program.proofs.Shown.{shown_message}
use Rattle.program.proofs.message.message_text.Goals as goal

pub returns : goal.returns
returns c =
    record {
      value = IfOk-weaker c.normalize_untrusted_str.result _ _
          (λ text value. shown_message text _ _ value (ap chars c.as_str.ensures.value ∙ c.in_ok-line.ensures.value))
          c.normalize_untrusted_str.ensures.value;
    }
