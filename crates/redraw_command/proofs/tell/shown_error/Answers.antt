use Rattle.std.proofs.Common.{rules}
use Rattle.std.proofs.lemmas.Result.{IfOk-weaker}
use Rattle.program.proofs.Shown.{shown_text}
use Rattle.redraw_command.proofs.tell.shown_error.Goals as goal

pub returns : goal.returns
returns c =
    record {
      shown = IfOk-weaker c.normalize_untrusted_str.result _ _
          (λ text value. (c.trim_end_matches.result.now, shown_text text _ value)) c.normalize_untrusted_str.ensures.value;
      memory = search rules;
    }
