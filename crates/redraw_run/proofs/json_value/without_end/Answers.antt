use Rattle.redraw_run.proofs.Lined.{end_cut}
use Rattle.redraw_run.proofs.json_value.without_end.Goals as goal

pub returns : goal.returns
returns c = record { cut = end_cut _ _ _ c.without_feed.ensures.cut c.without_return.ensures.cut }
