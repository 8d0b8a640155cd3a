-- The references so far lead to the texts so far.
use Rattle.std.proofs.Common.{◌≡◌, map, string_bytes, take}
use Rattle.program.specs.Arguments.{arguments_at}
use Rattle.program.proofs.input.texts_lent.Given as goal

abbrev pub invariant-loop-text : goal.invariant-loop-text
invariant-loop-text l = arguments_at l.lent.items ≡ map string_bytes (take l.text-index l.fn.texts)
