use Rattle.std.proofs.Common.{sym, ◌∙◌}
use Rattle.std.proofs.lemmas.Bool.{false≢true}
use Rattle.clap.specs.Words.{kind_of}
use Rattle.redraw_run.proofs.Asking.{memory_mistake}
use Rattle.redraw_run.proofs.run.answer_error.Goals as goal

pub returns-clause-memory : goal.returns-clause-memory
returns-clause-memory g c = λ memory.
    absurd (false≢true (sym c.if-use_stderr.false ∙ c.use_stderr.ensures.1 (memory_mistake (kind_of c.args.error.now) memory)))
