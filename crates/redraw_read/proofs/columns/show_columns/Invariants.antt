-- The places so far are those that were taken, as they are shown.
use Rattle.std.proofs.Common.{◌≡◌, map}
use Rattle.redraw_read.specs.AsShown.{place_shown}
use Rattle.redraw_read.proofs.columns.show_columns.Given as goal

abbrev pub invariant-loop-span : goal.invariant-loop-span
invariant-loop-span l =
    record {
      text : l.named.text.now ≡ l.initial.named.text.now;
      each : l.shown.items ≡ map (place_shown l.initial.named.text.now) l.yielded;
    }
