-- the places so far that are bare
use Rattle.std.proofs.Common.{take}
use Rattle.redraw_read.specs.Targets.{AreBarePlaces}
use Rattle.redraw_read.proofs.labels.bare_places.Given as goal

abbrev pub invariant-loop-index : goal.invariant-loop-index
invariant-loop-index l = AreBarePlaces l.bare (take l.index l.spans)
