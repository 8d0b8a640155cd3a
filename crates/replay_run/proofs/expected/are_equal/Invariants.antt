use Rattle.std.proofs.Common.{◌≡◌, map, take, string_bytes}
use Rattle.replay_run.specs.Expected.{texts_lent}
use Rattle.replay_run.proofs.expected.are_equal.Given as goal

-- the texts so far are equal
abbrev pub invariant-loop-i : goal.invariant-loop-i
invariant-loop-i l = texts_lent (take l.i l.wanted) ≡ map string_bytes (take l.i l.texts)
