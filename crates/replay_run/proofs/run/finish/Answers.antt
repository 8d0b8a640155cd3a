use Rattle.std.proofs.Common.{false, codes, inl, length, refl}
use Rattle.replay_run.specs.Answered.{AnswersInputs, StopsInputs}
use Rattle.replay_run.specs.Compared.{EndsComparison}
use Rattle.program.specs.Inputs.{held_by}
use Rattle.replay_run.proofs.AnsweredInputs.{all_stop, answers_kept, stops_kept}
use Rattle.replay_run.specs.declared.problem.Problem.TheVariants.{Write}
use Rattle.replay_run.proofs.Commands.{if_answers, if_comparison}
use Rattle.replay_run.proofs.Ending.{ends_kept}
use Rattle.output_stream.specs.Standing.{known}
use Rattle.output_stream.proofs.Writing.{gets_none}
use Rattle.replay_run.proofs.run.finish.Goals as goal

pub returns-in-Ok-flush-clause-compares : goal.returns-in-Ok-flush-clause-compares
returns-in-Ok-flush-clause-compares g c =
    if_comparison c.args.command.now
    (λ files. EndsComparison g.row.R-File.Denot g.R.File.Read.remaining (length files) (known g.W.Write.contents c.args.out.now)
    (known g.W.Write.contents c.do_command.new.out) c.in-Ok.status)
    (λ files. EndsComparison g.row.R-File.Denot g.R.File.Read.remaining (length files) (known g.W.Write.contents c.args.out.now)
    (known g.W.Write.contents c.flush.new.self) c.in-Ok.status)
    (λ files ends. ends_kept g.R.File.Read.remaining (length files) _ _ _ c.in-Ok.status ends c.in-Ok-flush.ensures.whole)
    c.in-Ok.ensures.compares

pub returns-in-Ok-flush-clause-answers : goal.returns-in-Ok-flush-clause-answers
returns-in-Ok-flush-clause-answers g c =
    let held = held_by g.R.File.Read.remaining g.R.Reader.Read.remaining in
    if_answers c.args.command.now
    (λ way names. AnswersInputs g.row.R-File.Denot g.row.R-Reader.Denot held way false names (known g.W.Write.contents c.args.out.now)
    (known g.W.Write.contents c.do_command.new.out))
    (λ way names. AnswersInputs g.row.R-File.Denot g.row.R-Reader.Denot held way false names (known g.W.Write.contents c.args.out.now)
    (known g.W.Write.contents c.flush.new.self))
    (λ way names told. answers_kept held way false names _ _ _ told (gets_none _ _ (inl c.in-Ok-flush.ensures.whole)))
    c.in-Ok.ensures.answers

pub returns-in-Err-flush-clause-stops : goal.returns-in-Err-flush-clause-stops
returns-in-Err-flush-clause-stops g c =
    let held = held_by g.R.File.Read.remaining g.R.Reader.Read.remaining in
    if_answers c.args.command.now
    (λ way names. AnswersInputs g.row.R-File.Denot g.row.R-Reader.Denot held way false names (known g.W.Write.contents c.args.out.now)
    (known g.W.Write.contents c.do_command.new.out))
    (λ way names. StopsInputs g.row.R-File.Denot g.row.R-Reader.Denot held way names (known g.W.Write.contents c.args.out.now)
    (known g.W.Write.contents c.flush.new.self) (codes "standard output") (Write c.in-Err-flush.error))
    (λ way names told. all_stop held way false names _ _ _ (Write c.in-Err-flush.error) told (gets_none _ _ c.in-Err-flush.ensures.either)
    (inl (c.in-Err-flush.ensures.cut.failed, c.in-Err-flush.error, refl)))
    c.in-Ok.ensures.answers

pub returns-in-Err-clause-stops : goal.returns-in-Err-clause-stops
returns-in-Err-clause-stops g c =
    let held = held_by g.R.File.Read.remaining g.R.Reader.Read.remaining in
    if_answers c.args.command.now
    (λ way names. StopsInputs g.row.R-File.Denot g.row.R-Reader.Denot held way names (known g.W.Write.contents c.args.out.now)
    (known g.W.Write.contents c.do_command.new.out) c.in-Err.stop.file.now c.in-Err.stop.problem)
    (λ way names. StopsInputs g.row.R-File.Denot g.row.R-Reader.Denot held way names (known g.W.Write.contents c.args.out.now)
    (known g.W.Write.contents c.flush-in-Err.new.self) c.in-Err.stop.file.now c.in-Err.stop.problem)
    (λ way names stops. stops_kept held way names _ _ _ _ c.in-Err.stop.problem stops c.flush-in-Err.ensures.either)
    c.in-Err.ensures.stops
