-- What is written so far, and what becomes of the rest, are what becomes of the whole.
use Rattle.std.proofs.Common.{◌≡◌, ◌++◌, drop}
use Rattle.redraw_command.specs.Unheeded.{unheeded, unheeded_from}
use Rattle.redraw_command.proofs.unheeded.unheeded.Given as goal

abbrev pub invariant-loop-at : goal.invariant-loop-at
invariant-loop-at l = l.plain.items ++ unheeded_from l.starts l.hashes (drop l.at l.fn.text) ≡ unheeded l.fn.text
