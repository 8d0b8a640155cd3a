use Rattle.redraw_tools.proofs.Cutting.{stripped}
use Rattle.redraw_tools.proofs.cut.after.Goals as goal

pub returns : goal.returns
returns c = record { value = stripped _ _ _ c.strip_prefix.ensures.cases }
