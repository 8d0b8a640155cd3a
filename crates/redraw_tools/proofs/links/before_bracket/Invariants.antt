use Rattle.std.proofs.Common.{◌≡◌, ◌+◌, drop, false}
use Rattle.redraw_tools.specs.Links.{before_bracket}
use Rattle.redraw_tools.proofs.links.before_bracket.Given as goal

-- no bracket has come up to here
abbrev pub invariant-loop-at : goal.invariant-loop-at
invariant-loop-at l = l.at + before_bracket l.is_escaped (drop l.at l.written) ≡ before_bracket false l.written
