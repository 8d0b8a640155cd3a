-- What is written so far spells the characters so far, and the hashes at their end are counted.
use Rattle.std.proofs.Common.{◌≡◌, encode_utf8_all, string_bytes}
use Rattle.redraw_command.specs.Unheeded.{apart_from}
use Rattle.redraw_command.proofs.Unheeding.{hashes_at}
use Rattle.redraw_command.proofs.unheeded.apart.Given as goal

abbrev pub invariant-loop-c : goal.invariant-loop-c
invariant-loop-c l = (string_bytes l.shown ≡ encode_utf8_all (apart_from 0 l.yielded)) × (l.hashes ≡ hashes_at 0 l.yielded)
