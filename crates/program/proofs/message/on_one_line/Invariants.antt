-- What is written so far spells the characters so far, as one line shows them.
use Rattle.std.proofs.Common.{◌≡◌, encode_utf8_all, string_bytes}
use Rattle.program.specs.Message.{on_one_line}
use Rattle.program.proofs.message.on_one_line.Given as goal

abbrev pub invariant-loop-c : goal.invariant-loop-c
invariant-loop-c l = string_bytes l.line ≡ encode_utf8_all (on_one_line l.yielded)
