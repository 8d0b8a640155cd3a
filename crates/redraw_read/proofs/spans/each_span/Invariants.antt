use Rattle.std.proofs.Common.{map, take}
use Rattle.serde_json.specs.View.{view}
use Rattle.redraw_read.specs.Places.{ArePlacesIn}
use Rattle.redraw_read.proofs.spans.each_span.Given as goal

-- the places so far are those of the values so far
abbrev pub invariant-loop-index : goal.invariant-loop-index
invariant-loop-index l = ArePlacesIn l.named l.keeps_starts (map view (take l.index l.values)) l.spans.items
