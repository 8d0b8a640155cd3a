use Rattle.std.proofs.Common.{◌≤◌, ◌-◌, length, drop}
use Rattle.snip_run.specs.Arguments.{arguments_at}
use Rattle.snip_run.proofs.Reading.{Continues}
use Rattle.snip_run.proofs.arguments.command_of.Given as goal

abbrev pub invariant-loop-changed : goal.invariant-loop-changed
invariant-loop-changed l =
    record {
      within : l.at ≤ length l.args;
      so_far : Continues (arguments_at l.args) (arguments_at (drop l.at l.args)) l.options;
    }

abbrev pub decreases-loop-changed : goal.decreases-loop-changed
decreases-loop-changed l = length l.args - l.at
