use Rattle.std.proofs.Common.{inr, ◌∙◌}
use Rattle.std.proofs.lemmas.Bool.{false≢true}
use Rattle.redraw_command.proofs.Telling.{tells_text}
use Rattle.redraw_command.proofs.tell.tell_error.Goals as goal

pub returns-in-Ok-clause-told : goal.returns-in-Ok-clause-told
returns-in-Ok-clause-told g c =
    tells_text _ _ _ c.in-Ok.ensures.shown.0 (c.as_str.ensures.value ∙ c.in-Ok.ensures.shown.1) c.write_line.ensures.told

pub returns-in-Ok-clause-memory : goal.returns-in-Ok-clause-memory
returns-in-Ok-clause-memory g c = λ memory. absurd (false≢true (c.in-Ok.ensures.memory memory))

pub returns-in-Err-clause-told : goal.returns-in-Err-clause-told
returns-in-Err-clause-told g c = inr c.tell_memory.ensures.told

pub returns-in-Err-clause-memory : goal.returns-in-Err-clause-memory
returns-in-Err-clause-memory g c = λ memory. c.tell_memory.ensures.told
