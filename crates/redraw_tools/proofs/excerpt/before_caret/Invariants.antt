use Rattle.std.proofs.Common.{◌≡◌, ◌+◌, drop}
use Rattle.redraw_tools.specs.Excerpt.{before_caret}
use Rattle.redraw_tools.proofs.excerpt.before_caret.Given as goal

-- no caret has come up to here
abbrev pub invariant-loop-at : goal.invariant-loop-at
invariant-loop-at l = l.at + before_caret (drop l.at l.row) ≡ before_caret l.row
