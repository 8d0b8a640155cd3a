use Rattle.std.proofs.Common.{map, take}
use Rattle.std.specs.List.{AllZip}
use Rattle.serde_json.specs.View.{view}
use Rattle.redraw_read.specs.Rustc.{IsChildOf}
use Rattle.redraw_read.proofs.rustc.children_by.Given as goal

-- the children so far are those of the values so far
abbrev pub invariant-loop-index : goal.invariant-loop-index
invariant-loop-index l = AllZip (IsChildOf l.reader) (map view (take l.index l.values)) l.children.items
