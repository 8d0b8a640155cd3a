use Rattle.std.proofs.Common.{◌≡◌, ◌+◌, drop}
use Rattle.redraw_tools.specs.Said.{capitals_before}
use Rattle.redraw_tools.proofs.said.capitals_before.Given as goal

-- all bytes up to here are capital letters
abbrev pub invariant-loop-at : goal.invariant-loop-at
invariant-loop-at l = l.at + capitals_before (drop l.at l.bytes) ≡ capitals_before l.bytes
