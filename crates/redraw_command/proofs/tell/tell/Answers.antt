use Rattle.std.proofs.Common.{inl, refl, ◌∙◌}
use Rattle.redraw_command.proofs.Telling.{tells_line, tells_memory}
use Rattle.redraw_command.proofs.tell.tell.Goals as goal

pub returns-in-Ok : goal.returns-in-Ok
returns-in-Ok g c =
    record {
      told = tells_line _ _ _ _ (c.as_str.ensures.value ∙ c.in-Ok.ensures.message.1) (inl (c.in-Ok.ensures.message.0, refl)) c.write_line.ensures.told;
    }

pub returns-in-Err : goal.returns-in-Err
returns-in-Err g c = record { told = tells_memory _ _ c.tell_memory.ensures.told }
