use Rattle.std.proofs.Common.{map, take, All}
use Rattle.std.specs.List.{AllZip}
use Rattle.serde_json.specs.View.{view}
use Rattle.replay_read.proofs.list.parts_of.Given as goal

-- the items so far say what was read
abbrev pub invariant-loop-index : goal.invariant-loop-index
invariant-loop-index g l = AllZip (g.T.ReadPart.says l.sources) (map view (take l.index l.value-items)) l.items.items
    × All g.T.ReadPart.fits l.items.items
