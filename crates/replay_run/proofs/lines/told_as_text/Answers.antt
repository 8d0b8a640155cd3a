use Rattle.std.proofs.Common.{List, ℕ, ◌++◌, ap, ◌∙◌}
use Rattle.replay_run.specs.WrittenAnswer.{told_text}
use Rattle.replay_run.specs.declared.lines.AnswerForm.TheVariants.{Texts}
use Rattle.replay_run.proofs.lines.told_as_text.Goals as goal

pub returns-in-Ok : goal.returns-in-Ok
returns-in-Ok c =
    record {
      text = c.in-Ok.ensures.line ∙ ap (λ (l : List ℕ). l ++ told_text Texts c.args.is_first c.args.number c.args.words.now) c.new-text.ensures.items;
    }
