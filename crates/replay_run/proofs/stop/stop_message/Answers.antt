use Rattle.std.proofs.Common.{List, ℕ, ◌++◌, ap, codes, ◌∙◌}
use Rattle.std.proofs.lemmas.Result.{IfOk-weaker}
use Rattle.replay_run.specs.Problem.{message_text}
use Rattle.replay_run.proofs.stop.stop_message.Goals as goal

pub returns : goal.returns
returns c =
    let (said, is) = c.in_ok-words.ensures.words in
    record {
      message = IfOk-weaker c.message_text.result _ _
          (λ text value. (
            said,
            value
                ∙ ap message_text
                (c.as_str.ensures.value ∙ c.in_ok-message.ensures.ok
                ∙ ap (λ (words : List ℕ). codes "replay: " ++ (c.args.stop.now.file.now ++ (codes ": " ++ words))) is),
          )) c.message_text.ensures.value;
    }
