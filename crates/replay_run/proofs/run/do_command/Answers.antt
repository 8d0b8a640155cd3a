use Rattle.std.proofs.Common.{false}
use Rattle.std.proofs.lemmas.Result.{IfOk-weaker}
use Rattle.replay_run.specs.Answered.{AnswersInputs, StopsInputs}
use Rattle.program.specs.Inputs.{held_by}
use Rattle.replay_run.proofs.AnsweredInputs.{if_err, on_ok}
use Rattle.replay_run.proofs.Commands.{answers_done, comparison_done}
use Rattle.output_stream.specs.Standing.{known}
use Rattle.replay_run.proofs.run.do_command.Goals as goal

pub returns-in-Answer-clause-answers : goal.returns-in-Answer-clause-answers
returns-in-Answer-clause-answers g c =
    on_ok c.answer.result
    (answers_done c.args.command.now c.in-Answer.texts c.in-Answer.keep_going c.in-Answer.inputs
    (λ way names. AnswersInputs g.row.R-File.Denot g.row.R-Reader.Denot (held_by g.R.File.Read.remaining g.R.Reader.Read.remaining) way false names
    (known g.W.Write.contents c.args.out.now) (known g.W.Write.contents c.answer.new.out)) c.way_of.result c.in-Answer.is c.way_of.ensures.value)
    c.answer.ensures.answers

pub returns-in-Answer-clause-stops : goal.returns-in-Answer-clause-stops
returns-in-Answer-clause-stops g c =
    if_err c.answer.result
    (λ stop h. answers_done c.args.command.now c.in-Answer.texts c.in-Answer.keep_going c.in-Answer.inputs
    (λ way names. StopsInputs g.row.R-File.Denot g.row.R-Reader.Denot (held_by g.R.File.Read.remaining g.R.Reader.Read.remaining) way names
    (known g.W.Write.contents c.args.out.now) (known g.W.Write.contents c.answer.new.out) stop.file.now stop.problem) c.way_of.result c.in-Answer.is
    c.way_of.ensures.value h) c.answer.ensures.stops

pub returns-in-Check-clause-compares : goal.returns-in-Check-clause-compares
returns-in-Check-clause-compares g c =
    IfOk-weaker c.check.result _ _
    (λ status h. comparison_done g.R.File.Read.remaining c.args.command.now c.in-Check.files _ _ status c.in-Check.is h) c.check.ensures.ends
