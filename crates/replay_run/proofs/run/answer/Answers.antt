use Rattle.std.proofs.Common.{List, codes, inr, refl, sym, subst}
use Rattle.replay_run.specs.Arguments.{Argument, arguments_at}
use Rattle.replay_run.specs.Answered.{StopsInputs}
use Rattle.program.specs.Inputs.{held_by}
use Rattle.replay_run.specs.declared.problem.Problem.{Problem}
use Rattle.replay_run.specs.declared.problem.Problem.TheVariants.{NotCases}
use Rattle.replay_run.proofs.AnsweredInputs.{all_stop, if_err}
use Rattle.replay_run.proofs.Growing.{kept_same}
use Rattle.output_stream.specs.Standing.{known}
use Rattle.replay_run.proofs.run.answer.Goals as goal

pub returns-in-Ok-clause-stops : goal.returns-in-Ok-clause-stops
returns-in-Ok-clause-stops g c =
    let held = held_by g.R.File.Read.remaining g.R.Reader.Read.remaining in
    let names : List Argument = arguments_at c.args.names.now in
    if_err c.ended.result
    (λ stop why.
    let at = all_stop held c.args.way c.in-Ok.told names _ _ _ NotCases c.in-Ok.ensures.answers (kept_same _) (inr (why.0, refl)) in
    subst (λ (called : Argument). StopsInputs g.row.R-File.Denot g.row.R-Reader.Denot held c.args.way names
    (known g.W.Write.contents c.args.out.now) (known g.W.Write.contents c.answer_inputs.new.out) called stop.problem) (sym why.2)
    (subst (λ (problem : Problem). StopsInputs g.row.R-File.Denot g.row.R-Reader.Denot held c.args.way names
    (known g.W.Write.contents c.args.out.now) (known g.W.Write.contents c.answer_inputs.new.out) (codes "standard output") problem) (sym why.1) at))
    c.ended.ensures.stops
