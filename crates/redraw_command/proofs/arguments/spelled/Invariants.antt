-- The words so far, and those that the arguments that are left become, are all.
use Rattle.std.proofs.Common.{◌≡◌, ◌++◌, drop, true}
use Rattle.redraw_command.specs.Arguments.{arguments_at, spelled}
use Rattle.redraw_command.proofs.arguments.spelled.Given as goal

abbrev pub invariant-loop-arg : goal.invariant-loop-arg
invariant-loop-arg l =
    arguments_at l.words.items ++ spelled l.is_option (arguments_at (drop l.arg-index l.args)) ≡ spelled true (arguments_at l.args)
