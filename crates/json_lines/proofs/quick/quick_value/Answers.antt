use Rattle.json_lines.proofs.Taken.{found-text}
use Rattle.json_lines.proofs.quick.quick_value.Goals as goal

pub returns-in-None : goal.returns-in-None
returns-in-None c = record { reads = found-text _ _ _ _ c.in_ok-reader.ensures.ok c.in-None.ensures.value.0 c.in_ok-found.ensures.takes }
