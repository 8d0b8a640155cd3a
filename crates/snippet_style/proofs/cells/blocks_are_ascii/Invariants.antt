-- The bytes so far are ASCII.
use Rattle.std.proofs.Common.{◌<◌, ◌≤◌, ◌-◌, All, length, take}
use Rattle.snippet_style.proofs.cells.blocks_are_ascii.Given as goal

abbrev pub invariant-loop-at : goal.invariant-loop-at
invariant-loop-at l = (l.at ≤ length l.fn.bytes) × All (λ b. b < 128) (take l.at l.fn.bytes)

abbrev pub decreases-loop-at : goal.decreases-loop-at
decreases-loop-at l = l.last - l.at
