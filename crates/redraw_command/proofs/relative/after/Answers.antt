use Rattle.redraw_command.proofs.Paths.{strip_text}
use Rattle.redraw_command.proofs.relative.after.Goals as goal

pub returns : goal.returns
returns c = record { value = strip_text _ _ _ c.strip_prefix.ensures.cases }
