use Rattle.std.proofs.Common.{◌∙◌, ap, arith, inl, inr, sym}
use Rattle.replay_run.specs.Arguments.{asked, arguments_at}
use Rattle.replay_run.proofs.Commands.{memory_mistake, memory_only, mistake_told, nothing_asked, nothing_shown}
use Rattle.replay_run.proofs.run.run.Goals as goal

pub returns-in-Ok-clause-usage : goal.returns-in-Ok-clause-usage
returns-in-Ok-clause-usage g c = λ neither.
    (c.run_matched.ensures.usage (nothing_asked (arguments_at c.args.args.now) _ (ap asked c.in-Ok.ensures.rows) c.in-Ok.ensures.faults neither)).0

pub returns-in-Ok-clause-no_answer : goal.returns-in-Ok-clause-no_answer
returns-in-Ok-clause-no_answer g c = λ neither.
    (c.run_matched.ensures.usage (nothing_asked (arguments_at c.args.args.now) _ (ap asked c.in-Ok.ensures.rows) c.in-Ok.ensures.faults neither)).1

pub returns-in-Ok-clause-differs : goal.returns-in-Ok-clause-differs
returns-in-Ok-clause-differs g c = λ one.
    let (files, is) = c.run_matched.ensures.differs one in
    (files, (c.in-Ok.ensures.faults, sym (ap asked c.in-Ok.ensures.rows) ∙ is))

pub returns-in-Ok-clause-compares : goal.returns-in-Ok-clause-compares
returns-in-Ok-clause-compares g c = λ within files asks. c.run_matched.ensures.compares within files (ap asked c.in-Ok.ensures.rows ∙ asks.1)

pub returns-in-Ok-clause-answers : goal.returns-in-Ok-clause-answers
returns-in-Ok-clause-answers g c = λ done way names asks. c.run_matched.ensures.answers done way names (ap asked c.in-Ok.ensures.rows ∙ asks.1)

pub returns-in-Ok-clause-stops : goal.returns-in-Ok-clause-stops
returns-in-Ok-clause-stops g c = λ stopped way names asks. c.run_matched.ensures.stops stopped way names (ap asked c.in-Ok.ensures.rows ∙ asks.1)

pub returns-in-Ok-clause-help : goal.returns-in-Ok-clause-help
returns-in-Ok-clause-help g c = λ done shows. absurd (nothing_shown (arguments_at c.args.args.now) c.in-Ok.ensures.faults shows)

pub returns-in-Err-clause-usage : goal.returns-in-Err-clause-usage
returns-in-Err-clause-usage g c = λ neither.
    let mistake = mistake_told (arguments_at c.args.args.now) c.in-Err.error c.in-Err.ensures.faults neither in
    (c.answer_error.ensures.usage mistake.0 mistake.1).0

pub returns-in-Err-clause-no_answer : goal.returns-in-Err-clause-no_answer
returns-in-Err-clause-no_answer g c = λ neither.
    let mistake = mistake_told (arguments_at c.args.args.now) c.in-Err.error c.in-Err.ensures.faults neither in
    (c.answer_error.ensures.usage mistake.0 mistake.1).1

pub returns-in-Err-clause-compares : goal.returns-in-Err-clause-compares
returns-in-Err-clause-compares g c = λ within files asks.
    let mistake = memory_mistake c.in-Err.error (memory_only (arguments_at c.args.args.now) c.in-Err.error c.in-Err.ensures.faults asks.0) in
    absurd (omega (arith, within, (c.answer_error.ensures.usage mistake.0 mistake.1).0))

pub returns-in-Err-clause-answers : goal.returns-in-Err-clause-answers
returns-in-Err-clause-answers g c = λ done way names asks.
    let mistake = memory_mistake c.in-Err.error (memory_only (arguments_at c.args.args.now) c.in-Err.error c.in-Err.ensures.faults asks.0) in
    absurd (omega (arith, done, (c.answer_error.ensures.usage mistake.0 mistake.1).0))

pub returns-in-Err-clause-stops : goal.returns-in-Err-clause-stops
returns-in-Err-clause-stops g c = λ stopped way names asks.
    let memory = memory_only (arguments_at c.args.args.now) c.in-Err.error c.in-Err.ensures.faults asks.0 in
    let mistake = memory_mistake c.in-Err.error memory in
    inl ((c.answer_error.ensures.usage mistake.0 mistake.1).1, c.answer_error.ensures.memory memory)

pub returns-in-Err-clause-differs : goal.returns-in-Err-clause-differs
returns-in-Err-clause-differs g c = λ one.
    elim c.answer_error.ensures.status [
      | inl done ↦ absurd (omega (arith, one, done))
      | inr stopped ↦ absurd (omega (arith, one, stopped))
    ]
