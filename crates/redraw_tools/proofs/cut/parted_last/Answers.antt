use Rattle.redraw_tools.proofs.Cutting.{splits-last}
use Rattle.redraw_tools.proofs.cut.parted_last.Goals as goal

pub returns : goal.returns
returns c = record { value = splits-last _ _ _ c.rsplit_once.ensures.cases }
