use Rattle.std.proofs.Common.{inl}
use Rattle.std.proofs.lemmas.Result.{IfOk-weaker}
use Rattle.replay_answer.proofs.Alone.{of_case}
use Rattle.replay_answer.proofs.line.value_answer.Goals as goal

pub returns-in-Ok-case_of : goal.returns-in-Ok-case_of
returns-in-Ok-case_of c =
    record {
      answers = IfOk-weaker c.case_answer.result _ _
          (λ text says. inl (of_case _ c.in-Ok-case_of.case says.0 _ c.in-Ok-case_of.ensures.value says.1 says.2))
          c.case_answer.ensures.answers;
    }
