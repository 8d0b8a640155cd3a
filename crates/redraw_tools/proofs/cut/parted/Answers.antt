use Rattle.redraw_tools.proofs.Cutting.{splits}
use Rattle.redraw_tools.proofs.cut.parted.Goals as goal

pub returns : goal.returns
returns c = record { value = splits _ _ _ c.split_once.ensures.cases }
