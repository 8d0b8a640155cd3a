-- Whether the rest begins a command says it of the whole.
use Rattle.std.proofs.Common.{◌≡◌, drop}
use Rattle.redraw_command.specs.Unheeded.{begins_command}
use Rattle.redraw_command.proofs.unheeded.begins_command.Given as goal

abbrev pub invariant-loop-at : goal.invariant-loop-at
invariant-loop-at l = begins_command (drop l.at l.fn.text) ≡ begins_command l.fn.text
