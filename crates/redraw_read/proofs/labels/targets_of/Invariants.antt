-- the targets so far, and the places that are bare once their labels are put
use Rattle.std.proofs.Common.{◌≡◌, take}
use Rattle.redraw_read.specs.Labels.{with_each}
use Rattle.redraw_read.specs.Targets.{AreBarePlaces, targets}
use Rattle.redraw_read.proofs.labels.targets_of.Given as goal

abbrev pub invariant-loop-label : goal.invariant-loop-label
invariant-loop-label l = record {
  found : l.targets.items ≡ targets (take l.label-index l.labels) l.spans;
  bare : AreBarePlaces l.bare (with_each (take l.label-index l.labels) l.spans);
}
