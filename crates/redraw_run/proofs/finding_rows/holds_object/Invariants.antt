use Rattle.std.proofs.Common.{◌≡◌, drop, false}
use Rattle.redraw_run.specs.FindingLines.{holds_after}
use Rattle.redraw_run.proofs.finding_rows.holds_object.Given as goal

-- what is left says it
abbrev pub invariant-loop-byte : goal.invariant-loop-byte
invariant-loop-byte l = holds_after l.is_start (drop l.byte-index l.bytes) ≡ holds_after false l.bytes
