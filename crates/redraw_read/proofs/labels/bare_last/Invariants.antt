-- the places so far that are bare, and the others
use Rattle.std.proofs.Common.{◌≡◌, not}
use Rattle.std.specs.List.{filter}
use Rattle.redraw_read.specs.Labels.{is_bare}
use Rattle.redraw_read.proofs.labels.bare_last.Given as goal

abbrev pub invariant-loop-span : goal.invariant-loop-span
invariant-loop-span l = record {
  others : l.others.items ≡ filter (λ s. not (is_bare s)) l.yielded;
  bare : l.bare.items ≡ filter is_bare l.yielded;
}
