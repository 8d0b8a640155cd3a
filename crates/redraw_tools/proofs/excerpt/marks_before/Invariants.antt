use Rattle.std.proofs.Common.{◌≡◌, ◌+◌, drop}
use Rattle.redraw_tools.specs.Excerpt.{marks_before}
use Rattle.redraw_tools.proofs.excerpt.marks_before.Given as goal

-- all bytes up to here are marks
abbrev pub invariant-loop-at : goal.invariant-loop-at
invariant-loop-at l = l.at + marks_before (drop l.at l.bytes) ≡ marks_before l.bytes
