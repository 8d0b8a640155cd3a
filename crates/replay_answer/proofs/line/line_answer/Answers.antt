use Rattle.std.proofs.Common.{string_bytes}
use Rattle.std.proofs.lemmas.Result.{IfOk-weaker}
use Rattle.replay_answer.proofs.Alone.{of_bytes}
use Rattle.replay_answer.proofs.line.line_answer.Goals as goal

pub returns-in-Err : goal.returns-in-Err
returns-in-Err c =
    record {
      answers = IfOk-weaker c.told_json.result _ _
          (λ text is. of_bytes c.args.line.now (string_bytes text) c.in-Err.ensures.cases.0 is)
          c.told_json.ensures.line;
    }
