use Rattle.std.proofs.Common.{◌≡◌}
use Rattle.redraw_read.specs.AsShown.{with_roles}
use Rattle.redraw_read.proofs.roles.given_roles.Given as goal

abbrev pub invariant-loop-span : goal.invariant-loop-span
invariant-loop-span l = l.found.items ≡ with_roles l.roles l.yielded
