use Rattle.std.proofs.Common.{◌≡◌, ◌∙◌, List, [], ◌∷◌, ◌++◌, ap, arith, length, subst, sym, take}
use Rattle.replay_run.specs.Arguments.{Argument, arguments_at}
use Rattle.replay_run.specs.Answered.{AnswersInputs}
use Rattle.program.specs.Inputs.{held_by}
use Rattle.replay_run.proofs.AnsweredInputs.{HaveAnswered, names_all, names_at, names_more, none_answered, one_more_answered, stops_next}
use Rattle.output_stream.specs.Standing.{known}
use Rattle.replay_run.proofs.inputs.answer_inputs.Goals as goal

pub loop-name-init : goal.loop-name-init
loop-name-init g c = none_answered (held_by g.R.File.Read.remaining g.R.Reader.Read.remaining) c.args.way _

pub loop-name-preserved : goal.loop-name-preserved
loop-name-preserved g c =
    let held = held_by g.R.File.Read.remaining g.R.Reader.Read.remaining in
    let before = arguments_at (take c.loop-name.name-index c.args.names.now) in
    let (input, is, answered) = c.in-Ok.ensures.answers in
    let more = one_more_answered held c.args.way c.loop-name.told c.in-Ok.here _ before c.loop-name.is_first c.answer_named.new.is_first _ _ _ input
    c.loop-name.invariant answered c.either-told.ensures.value in
    subst (λ (names : List Argument). HaveAnswered g.row.R-File.Denot g.row.R-Reader.Denot held c.args.way c.either-told.result names
    c.answer_named.new.is_first (known g.W.Write.contents c.args.out.now) (known g.W.Write.contents c.answer_named.new.out))
    (ap (λ (name : Argument). before ++ name ∷ []) is ∙ sym (names_more c.args.names.now c.loop-name.name-index _ (omega (arith, c.loop-name-test.true)))) more

pub returns-in-Err-clause-stops : goal.returns-in-Err-clause-stops
returns-in-Err-clause-stops g c =
    let (after, split) = names_at c.args.names.now c.loop-name.name-index _ (omega (arith, c.loop-name-test.true)) in
    stops_next (held_by g.R.File.Read.remaining g.R.Reader.Read.remaining) c.args.way c.loop-name.told _ _ after _ _ _ _ _ _ _ c.loop-name.invariant split
    c.input_name.ensures.value c.in-Err.ensures.stops

pub returns-clause-answers : goal.returns-clause-answers
returns-clause-answers g c =
    let all : c.loop-name.name-index ≡ length c.args.names.now = omega arith in
    subst (λ (names : List Argument). AnswersInputs g.row.R-File.Denot g.row.R-Reader.Denot (held_by g.R.File.Read.remaining g.R.Reader.Read.remaining)
    c.args.way c.loop-name.told names (known g.W.Write.contents c.args.out.now) (known g.W.Write.contents c.loop-name.out))
    (names_all c.args.names.now c.loop-name.name-index all) c.loop-name.invariant.all
