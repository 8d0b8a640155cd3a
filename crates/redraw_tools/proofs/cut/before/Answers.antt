use Rattle.redraw_tools.proofs.Cutting.{ended}
use Rattle.redraw_tools.proofs.cut.before.Goals as goal

pub returns : goal.returns
returns c = record { value = ended _ _ _ c.strip_suffix.ensures.cases }
