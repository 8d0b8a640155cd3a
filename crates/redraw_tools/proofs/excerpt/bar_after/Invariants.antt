use Rattle.std.proofs.Common.{◌≡◌, drop}
use Rattle.redraw_tools.specs.Excerpt.{bar_after}
use Rattle.redraw_tools.proofs.excerpt.bar_after.Given as goal

-- no bar has come up to here
abbrev pub invariant-loop-at : goal.invariant-loop-at
invariant-loop-at l = bar_after l.at (drop l.at l.row) ≡ bar_after 0 l.row
