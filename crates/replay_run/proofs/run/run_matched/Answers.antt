use Rattle.std.proofs.Common.{◌∙◌, Some, ap, false, inl, inr, length, refl}
use Rattle.clap.specs.Words.{found_of, rows_of}
use Rattle.replay_run.specs.Arguments.{Checks, asked, task_of}
use Rattle.replay_run.specs.Answered.{AnswersInputs, StopsInputs}
use Rattle.replay_run.specs.Compared.{EndsComparison}
use Rattle.program.specs.Inputs.{held_by}
use Rattle.replay_run.specs.Inputs.{answers}
use Rattle.replay_run.proofs.Commands.{answers_asked, comparison_asked, files_compared, memory_asked, same_task}
use Rattle.replay_run.proofs.Commands.{something_asked}
use Rattle.output_stream.specs.Standing.{known}
use Rattle.replay_run.proofs.run.run_matched.Goals as goal

pub returns-in-Ok-finish-clause-usage : goal.returns-in-Ok-finish-clause-usage
returns-in-Ok-finish-clause-usage g c = λ none. absurd (something_asked _ (task_of c.in-Ok.command) c.in-Ok.ensures.command none)

pub returns-in-Ok-finish-clause-differs : goal.returns-in-Ok-finish-clause-differs
returns-in-Ok-finish-clause-differs g c = λ one.
    let (files, is) = files_compared c.in-Ok.command (c.in-Ok-finish.ensures.differs one) in
    (files, c.in-Ok.ensures.command ∙ ap Some is)

pub returns-in-Ok-finish-clause-compares : goal.returns-in-Ok-finish-clause-compares
returns-in-Ok-finish-clause-compares g c = λ within files is.
    comparison_asked c.in-Ok.command (λ names. EndsComparison g.row.R-File.Denot g.R.File.Read.remaining (length names)
    (known g.W.Write.contents c.args.out.now) (known g.W.Write.contents c.finish.new.out) c.in-Ok-finish.status) files
    (same_task (asked (rows_of (found_of c.args.matches.now))) (task_of c.in-Ok.command) (Checks files) c.in-Ok.ensures.command is)
    c.in-Ok-finish.ensures.compares

pub returns-in-Ok-finish-clause-answers : goal.returns-in-Ok-finish-clause-answers
returns-in-Ok-finish-clause-answers g c = λ done way names is.
    answers_asked c.in-Ok.command (λ w ns. AnswersInputs g.row.R-File.Denot g.row.R-Reader.Denot
    (held_by g.R.File.Read.remaining g.R.Reader.Read.remaining) w false ns (known g.W.Write.contents c.args.out.now)
    (known g.W.Write.contents c.finish.new.out))
    way names (same_task (asked (rows_of (found_of c.args.matches.now))) (task_of c.in-Ok.command) (answers way names) c.in-Ok.ensures.command is)
    c.in-Ok-finish.ensures.answers

pub returns-in-Err-finish-clause-told : goal.returns-in-Err-finish-clause-told
returns-in-Err-finish-clause-told g c = λ stopped. inr (c.in-Err-finish.stop.file.now, c.in-Err-finish.stop.problem, c.tell_stop.ensures.told)

pub returns-in-Err-finish-clause-usage : goal.returns-in-Err-finish-clause-usage
returns-in-Err-finish-clause-usage g c = λ none. absurd (something_asked _ (task_of c.in-Ok.command) c.in-Ok.ensures.command none)

pub returns-in-Err-finish-clause-stops : goal.returns-in-Err-finish-clause-stops
returns-in-Err-finish-clause-stops g c = λ stopped way names is.
    inr (
      c.in-Err-finish.stop.file.now,
      c.in-Err-finish.stop.problem,
      c.tell_stop.ensures.told,
      answers_asked c.in-Ok.command (λ w ns. StopsInputs g.row.R-File.Denot g.row.R-Reader.Denot
          (held_by g.R.File.Read.remaining g.R.Reader.Read.remaining) w ns (known g.W.Write.contents c.args.out.now) (known g.W.Write.contents c.finish.new.out)
          c.in-Err-finish.stop.file.now c.in-Err-finish.stop.problem) way names
          (same_task (asked (rows_of (found_of c.args.matches.now))) (task_of c.in-Ok.command) (answers way names) c.in-Ok.ensures.command is)
          c.in-Err-finish.ensures.stops,
    )

pub returns-in-Err-clause-stops : goal.returns-in-Err-clause-stops
returns-in-Err-clause-stops g c = λ stopped way names is.
    inl (refl, c.tell_usage_error.ensures.memory (memory_asked _ (answers way names) c.in-Err.error c.in-Err.ensures.none is))
