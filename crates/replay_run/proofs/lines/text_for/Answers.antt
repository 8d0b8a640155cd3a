use Rattle.replay_run.proofs.Reading.{line_answered, line_misread}
use Rattle.replay_run.proofs.lines.text_for.Goals as goal

pub returns-in-Ok-clause-answers : goal.returns-in-Ok-clause-answers
returns-in-Ok-clause-answers c =
    line_answered c.args.form c.args.is_first c.args.line _ c.text_of.result c.in-Ok.ensures.value c.text_of.ensures.answers

pub returns-in-Ok-clause-stops : goal.returns-in-Ok-clause-stops
returns-in-Ok-clause-stops c =
    line_misread _ c.args.line _ c.text_of.result c.in-Ok.ensures.value c.text_of.ensures.misread
