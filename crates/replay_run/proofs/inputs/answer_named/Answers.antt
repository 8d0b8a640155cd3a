use Rattle.std.proofs.Common.{inl, refl}
use Rattle.std.proofs.KnownBytes.{Keeps-refl}
use Rattle.std.proofs.lemmas.Result.{IfOk-weaker}
use Rattle.program.specs.Inputs.{held_by, source_in}
use Rattle.replay_run.proofs.AnsweredInputs.{if_err, named_answered, named_stops}
use Rattle.replay_run.proofs.inputs.answer_named.Goals as goal

pub returns-in-Err-clause-stops : goal.returns-in-Err-clause-stops
returns-in-Err-clause-stops g c = inl (Keeps-refl _, (c.in-Err.error, refl))

pub returns-in-Ok-clause-answers : goal.returns-in-Ok-clause-answers
returns-in-Ok-clause-answers g c =
    let held = held_by g.R.File.Read.remaining g.R.Reader.Read.remaining in
    IfOk-weaker c.answer_lines.result _ _
    (λ told h. named_answered held c.args.name.now (source_in c.in-Ok.input) _ c.args.way told _ _ _ _ c.in-Ok.ensures.named c.in-Ok.ensures.bytes h)
    c.answer_lines.ensures.answers

pub returns-in-Ok-clause-stops : goal.returns-in-Ok-clause-stops
returns-in-Ok-clause-stops g c =
    let held = held_by g.R.File.Read.remaining g.R.Reader.Read.remaining in
    if_err c.answer_lines.result
    (λ problem h. named_stops held c.args.name.now (source_in c.in-Ok.input) _ c.args.way _ _ _ problem c.in-Ok.ensures.named c.in-Ok.ensures.bytes h)
    c.answer_lines.ensures.stops
