use Rattle.std.proofs.Common.{codes, inr, sym, ◌∙◌}
use Rattle.std.proofs.lemmas.Bool.{false≢true}
use Rattle.replay_run.proofs.Commands.{memory_mistake}
use Rattle.replay_run.proofs.run.answer_error.Goals as goal

pub returns-in-Ok-clause-memory : goal.returns-in-Ok-clause-memory
returns-in-Ok-clause-memory g c = λ memory.
    absurd (false≢true (sym c.if-use_stderr.false ∙ c.use_stderr.ensures.1 (memory_mistake c.args.error.now memory)))

pub returns-in-Err-clause-memory : goal.returns-in-Err-clause-memory
returns-in-Err-clause-memory g c = λ memory.
    absurd (false≢true (sym c.if-use_stderr.false ∙ c.use_stderr.ensures.1 (memory_mistake c.args.error.now memory)))

pub returns-in-Err-clause-told : goal.returns-in-Err-clause-told
returns-in-Err-clause-told g c = λ stopped. inr (codes "standard output", c.in-Err.problem, c.tell_stop.ensures.told)
