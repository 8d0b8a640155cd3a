use Rattle.std.proofs.Common.{◌≡◌, drop}
use Rattle.redraw_command.specs.Line as spec
use Rattle.redraw_command.proofs.line.first_of.Given as goal

-- all bytes so far are blank
abbrev pub invariant-loop-byte : goal.invariant-loop-byte
invariant-loop-byte l = spec.first_of (drop l.byte-index l.bytes) ≡ spec.first_of l.bytes
