use Rattle.std.proofs.Common.{List, ℕ, ◌++◌, ap, ◌∙◌}
use Rattle.replay_run.specs.WrittenAnswer.{answer_text}
use Rattle.replay_run.proofs.lines.case_text.Goals as goal

pub returns-in-Ok : goal.returns-in-Ok
returns-in-Ok c =
    let (outcome, became, written) = c.in-Ok.ensures.answer in
    record {
      text = (
        outcome,
        became,
        written ∙ ap (λ (l : List ℕ). l
            ++ answer_text c.args.form c.args.is_first c.args.case.now.id.now outcome) c.new-text.ensures.items,
      );
    }
