use Rattle.std.proofs.Common.{ap, codes, ◌++◌, ◌∙◌}
use Rattle.std.proofs.lemmas.Result.{IfOk-weaker}
use Rattle.redraw_command.specs.Unheeded.{apart}
use Rattle.redraw_command.proofs.tell.shown.Goals as goal

pub returns : goal.returns
returns g c =
    record {
      message = IfOk-weaker c.format-2.result _ _
          (λ text is. (
            c.as_str.result.now,
            is ∙ ap (λ l. codes "redraw: " ++ l)
                (c.in_ok-said-3.ensures.value ∙ ap apart (c.as_str-2.ensures.value ∙ c.in_ok-said-2.ensures.value)),
          )) c.format-2.ensures.ok;
    }
