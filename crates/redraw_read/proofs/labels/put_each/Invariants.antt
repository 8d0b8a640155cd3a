use Rattle.std.proofs.Common.{◌≡◌, length}
use Rattle.redraw_read.specs.Targets.{put_each}
use Rattle.redraw_read.proofs.labels.put_each.Given as goal

abbrev pub invariant-loop-label : goal.invariant-loop-label
invariant-loop-label l = record {
  count : l.index ≡ length l.yielded;
  put : l.spans.items ≡ put_each l.targets l.yielded l.initial.spans.items;
}
