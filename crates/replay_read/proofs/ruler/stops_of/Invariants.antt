-- Each stop so far is one, and so is the place that the loop has come to.
use Rattle.std.proofs.Common.{◌≡◌, ◌≤◌, All, drop}
use Rattle.replay_read.specs.Stops.{IsStop}
use Rattle.replay_read.proofs.ruler.stops_of.Given as goal

abbrev pub invariant-loop-c : goal.invariant-loop-c
invariant-loop-c l =
    record {
      kept : All (IsStop l.unit l.source) l.stops.items;
      here : IsStop l.unit l.source l.here;
      rest : drop l.here.byte l.source ≡ l.c-iterator.rest.now;
      small : l.here.units ≤ l.here.byte;
    }
