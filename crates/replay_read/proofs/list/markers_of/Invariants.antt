use Rattle.std.proofs.Common.{map, take, All}
use Rattle.std.specs.List.{AllZip}
use Rattle.serde_json.specs.View.{view}
use Rattle.replay_read.proofs.list.markers_of.Given as goal

-- the items so far say what was read
abbrev pub invariant-loop-index : goal.invariant-loop-index
invariant-loop-index g l = AllZip (g.T.ReadMarker.says l.ruler.source.now l.ruler.unit) (map view (take l.index l.value-items)) l.items.items
    × All g.T.ReadMarker.fits l.items.items
