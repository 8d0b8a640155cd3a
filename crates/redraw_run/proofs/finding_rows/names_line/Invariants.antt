use Rattle.std.proofs.Common.{◌≡◌, drop}
use Rattle.redraw_run.specs.FindingLines.{names_after, names_line}
use Rattle.redraw_run.proofs.finding_rows.names_line.Given as goal

-- what is left says it
abbrev pub invariant-loop-byte : goal.invariant-loop-byte
invariant-loop-byte l = names_after l.is_open (drop l.byte-index l.bytes) ≡ names_line l.bytes
