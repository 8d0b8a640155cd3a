-- The bytes so far are plain, and no more than are looked at.
use Rattle.std.proofs.Common.{◌≤◌, ◌-◌, All, take}
use Rattle.snippet_text.specs.Plain.{IsPlain}
use Rattle.snippet_text.proofs.plain.plain_prefix.Given as goal

abbrev pub invariant-loop-at : goal.invariant-loop-at
invariant-loop-at l = (l.at ≤ l.most) × All IsPlain (take l.at l.fn.text)

abbrev pub decreases-loop-at : goal.decreases-loop-at
decreases-loop-at l = l.most - l.at
