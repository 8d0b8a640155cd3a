use Rattle.std.proofs.Common.{Option, ap, ◌∙◌}
use Rattle.std.proofs.lemmas.Result.{IfOk-weaker}
use Rattle.redraw_command.specs.Told.{normalized_text}
use Rattle.redraw_command.specs.Workflow.{first_primary, raw_command}
use Rattle.redraw_report.specs.declared.diagnostic.FileSpan.{FileSpan}
use Rattle.program.proofs.Shown.{shown_text}
use Rattle.redraw_command.proofs.workflow.named_command.Goals as goal

pub returns : goal.returns
returns c =
    record {
      value = IfOk-weaker c.normalize_untrusted_str.result _ _
          (λ text is. shown_text text _ is
          ∙ ap normalized_text (c.as_str.ensures.value ∙ c.in_ok-line.ensures.value
          ∙ ap (λ (place : Option FileSpan). raw_command c.args.name.now place c.args.diagnostic.now)
          (c.place_of.ensures.value ∙ ap first_primary c.deref.ensures.value)))
          c.normalize_untrusted_str.ensures.value;
    }
