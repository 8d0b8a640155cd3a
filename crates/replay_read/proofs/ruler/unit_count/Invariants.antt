-- The units so far, and those of what is left, are all.
use Rattle.std.proofs.Common.{◌≡◌, ◌+◌, ◌≤◌, length}
use Rattle.std.specs.Str.{IsUtf8}
use Rattle.replay_read.specs.Stops.{units_in}
use Rattle.replay_read.proofs.ruler.unit_count.Given as goal

abbrev pub invariant-loop-c : goal.invariant-loop-c
invariant-loop-c l =
    record {
      counted : l.count + units_in l.unit l.c-iterator.rest.now ≡ units_in l.unit l.text;
      size : l.count + length l.c-iterator.rest.now ≤ length l.text;
      utf8 : IsUtf8 l.c-iterator.rest.now;
    }
