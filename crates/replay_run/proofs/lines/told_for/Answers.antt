use Rattle.std.proofs.Common.{ap, string_bytes, ◌∙◌}
use Rattle.replay_run.specs.WrittenAnswer.{told_text}
use Rattle.replay_run.proofs.lines.told_for.Goals as goal

pub returns-in-Ok-told_line-clause-text : goal.returns-in-Ok-told_line-clause-text
returns-in-Ok-told_line-clause-text c = (
  string_bytes c.in-Ok.words,
  c.in-Ok.ensures.words,
  c.in-Ok-told_line.ensures.text ∙ ap (told_text c.args.form c.args.is_first c.args.number) c.as_str.ensures.value,
)
