use Rattle.std.proofs.Common.{map}
use Rattle.serde_json.specs.View.{view}
use Rattle.redraw_read.proofs.spans.carried_in.Goals as goal

pub returns : goal.returns
returns c = record { are = (map view c.in_ok-lines.lines.now, c.in_ok-lines.ensures.value, c.in_ok-carried.ensures.are) }
