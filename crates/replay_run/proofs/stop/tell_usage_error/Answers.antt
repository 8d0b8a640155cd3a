use Rattle.std.proofs.Common.{inl, inr, subst, ◌∙◌}
use Rattle.std.proofs.lemmas.Bool.{false≢true}
use Rattle.program.specs.Stream.{Receives, Told}
use Rattle.replay_run.proofs.stop.tell_usage_error.Goals as goal

pub returns-in-Ok-clause-told : goal.returns-in-Ok-clause-told
returns-in-Ok-clause-told g c =
    inl (
      c.in-Ok.ensures.shown.0,
      subst (λ text. Receives g.V.Write.contents c.args.err.now c.write_line.new.out (Told text))
          (c.as_str.ensures.value ∙ c.in-Ok.ensures.shown.1) c.write_line.ensures.told,
    )

pub returns-in-Ok-clause-memory : goal.returns-in-Ok-clause-memory
returns-in-Ok-clause-memory g c = λ memory. absurd (false≢true (c.in-Ok.ensures.memory memory))

pub returns-in-Err-clause-told : goal.returns-in-Err-clause-told
returns-in-Err-clause-told g c = inr c.write_line-in-Err.ensures.told

pub returns-in-Err-clause-memory : goal.returns-in-Err-clause-memory
returns-in-Err-clause-memory g c = λ memory. c.write_line-in-Err.ensures.told
