use Rattle.redraw_read.proofs.After.{stripped}
use Rattle.redraw_read.proofs.words.after.Goals as goal

pub returns : goal.returns
returns c = record { value = stripped _ _ _ c.strip_prefix.ensures.cases }
