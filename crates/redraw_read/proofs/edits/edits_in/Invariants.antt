use Rattle.std.proofs.Common.{map, take}
use Rattle.serde_json.specs.View.{view}
use Rattle.redraw_read.specs.Edits.{AreEditsIn}
use Rattle.redraw_read.proofs.edits.edits_in.Given as goal

-- the edits so far are those of the values so far
abbrev pub invariant-loop-index : goal.invariant-loop-index
invariant-loop-index l = AreEditsIn (map view (take l.index l.values)) l.edits.items
