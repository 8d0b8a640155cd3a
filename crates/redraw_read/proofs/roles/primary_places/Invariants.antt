use Rattle.std.proofs.Common.{take}
use Rattle.redraw_read.specs.Roles.{ArePrimaryParts}
use Rattle.redraw_read.proofs.roles.primary_places.Given as goal

-- the parts of the places so far
abbrev pub invariant-loop-span : goal.invariant-loop-span
invariant-loop-span l = ArePrimaryParts l.parts (take l.span-index l.spans)
