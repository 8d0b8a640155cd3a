-- The bytes so far are plain.
use Rattle.std.proofs.Common.{◌≤◌, ◌-◌, All, length, take}
use Rattle.snippet_text.specs.Plain.{IsPlain}
use Rattle.snippet_text.proofs.plain.blocks_are_plain.Given as goal

abbrev pub invariant-loop-at : goal.invariant-loop-at
invariant-loop-at l = (l.at ≤ length l.fn.bytes) × All IsPlain (take l.at l.fn.bytes)

abbrev pub decreases-loop-at : goal.decreases-loop-at
decreases-loop-at l = l.last - l.at
