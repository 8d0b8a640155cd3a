use Rattle.std.proofs.Common.{◌∷◌}
use Rattle.redraw_command.proofs.Paths.{below_as}
use Rattle.redraw_command.proofs.relative.below.Goals as goal

pub returns-in-Some : goal.returns-in-Some
returns-in-Some c = record { value = below_as _ _ _ _ c.in-Some.ensures.value c.file_in.ensures.value }

pub returns-in-None : goal.returns-in-None
returns-in-None c = record { value = λ rest below. c.in-None.ensures.value (47 ∷ rest) below.split }
