use Rattle.std.proofs.Common.{◌≡◌, drop}
use Rattle.redraw_tools.specs.Links.{closed_length, closed_within}
use Rattle.redraw_tools.proofs.links.closed_length.Given as goal

-- none up to here closes
abbrev pub invariant-loop-at : goal.invariant-loop-at
invariant-loop-at l = closed_within l.at (drop l.at l.written) ≡ closed_length l.written
