use Rattle.redraw_command.proofs.Paths.{trimmed}
use Rattle.redraw_command.proofs.relative.without_slashes.Goals as goal

pub returns : goal.returns
returns c = record { value = trimmed _ _ c.trim_end_matches.ensures.matches }
