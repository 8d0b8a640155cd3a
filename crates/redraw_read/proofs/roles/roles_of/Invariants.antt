use Rattle.std.proofs.Common.{◌≡◌, map, take}
use Rattle.redraw_read.specs.AsShown.{is_at_primary}
use Rattle.redraw_read.proofs.roles.roles_of.Given as goal

abbrev pub invariant-loop-span : goal.invariant-loop-span
invariant-loop-span l = l.roles.items ≡ map (is_at_primary l.spans) (take l.span-index l.spans)
