use Rattle.redraw_command.proofs.Paths.{file_as}
use Rattle.redraw_command.proofs.relative.file_in.Goals as goal

pub returns-in-Some : goal.returns-in-Some
returns-in-Some c = record { value = file_as _ _ _ c.in-Some.ensures.value c.some_path.ensures.value }

pub returns-in-None : goal.returns-in-None
returns-in-None c = record { value = λ file same. absurd (c.in-None.ensures.value file same) }
