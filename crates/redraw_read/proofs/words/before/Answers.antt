use Rattle.redraw_read.proofs.After.{cut}
use Rattle.redraw_read.proofs.words.before.Goals as goal

pub returns : goal.returns
returns c = record { value = cut _ _ _ c.strip_suffix.ensures.cases }
