use Rattle.std.proofs.lemmas.Result.{IfOk-weaker}
use Rattle.replay_answer.proofs.line.case_answer.Goals as goal

pub returns : goal.returns
returns c =
    record {
      answers = IfOk-weaker c.answer_json.result _ _ (λ text is. (c.in_ok-outcome.outcome, c.in_ok-outcome.ensures.outcome, is)) c.answer_json.ensures.line;
    }
