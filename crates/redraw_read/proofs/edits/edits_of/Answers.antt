use Rattle.std.proofs.Common.{map}
use Rattle.serde_json.specs.View.{view}
use Rattle.redraw_read.proofs.edits.edits_of.Goals as goal

pub returns : goal.returns
returns c = record { are = (map view c.in_ok-values.values.now, c.in_ok-values.ensures.value, c.in_ok-edits.ensures.are) }
