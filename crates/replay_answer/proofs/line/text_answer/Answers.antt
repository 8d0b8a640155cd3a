use Rattle.std.proofs.Common.{string_bytes}
use Rattle.std.proofs.lemmas.Result.{IfOk-weaker}
use Rattle.serde_json.specs.View.{view}
use Rattle.replay_answer.proofs.Alone.{of_error, of_value}
use Rattle.replay_answer.proofs.line.text_answer.Goals as goal

pub returns-in-Ok : goal.returns-in-Ok
returns-in-Ok c =
    record {
      answers = IfOk-weaker c.value_answer.result _ _
          (λ text says. of_value c.args.line.now (string_bytes text) (view c.in-Ok.value) c.in-Ok.ensures.ok says)
          c.value_answer.ensures.answers;
    }

pub returns-in-Err : goal.returns-in-Err
returns-in-Err c =
    record {
      answers = IfOk-weaker c.error_answer.result _ _
          (λ text told. of_error c.args.line.now (string_bytes text) told.1 told.2 (c.in-Err.ensures.err told.0) told.3)
          c.error_answer.ensures.told;
    }
