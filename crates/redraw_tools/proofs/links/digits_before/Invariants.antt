use Rattle.std.proofs.Common.{◌≡◌, ◌+◌, drop}
use Rattle.redraw_tools.specs.Links.{digits_before}
use Rattle.redraw_tools.proofs.links.digits_before.Given as goal

-- all characters up to here are digits
abbrev pub invariant-loop-at : goal.invariant-loop-at
invariant-loop-at l = l.at + digits_before (drop l.at l.written) ≡ digits_before l.written
