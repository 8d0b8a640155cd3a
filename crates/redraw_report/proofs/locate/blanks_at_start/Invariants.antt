use Rattle.std.proofs.Common.{◌≡◌, ◌+◌, drop}
use Rattle.redraw_report.specs.Region.{blanks_before}
use Rattle.redraw_report.proofs.locate.blanks_at_start.Given as goal

-- all bytes up to here are blanks
abbrev pub invariant-loop-at : goal.invariant-loop-at
invariant-loop-at l = l.at + blanks_before (drop l.at l.bytes) ≡ blanks_before l.bytes
