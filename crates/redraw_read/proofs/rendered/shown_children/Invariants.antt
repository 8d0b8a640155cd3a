-- The children so far are what those become that were taken, and the labels are what is told of these.
use Rattle.std.proofs.Common.{◌≡◌, ◌++◌, map}
use Rattle.std.specs.List.{flat_map}
use Rattle.redraw_read.specs.AsShown.{child_seen, child_shown, labels_of}
use Rattle.redraw_read.specs.Labels.{label_seen}
use Rattle.redraw_read.proofs.rendered.shown_children.Given as goal

abbrev pub invariant-loop-child : goal.invariant-loop-child
invariant-loop-child l =
    record {
      text : l.manners.text.now ≡ l.initial.manners.text.now;
      each : map child_seen l.shown.items ≡ flat_map (child_shown l.initial.manners.text.now) (map child_seen l.yielded);
      told : map label_seen l.told.items
          ≡ map label_seen l.initial.told.items ++ flat_map (labels_of l.initial.manners.text.now) (map child_seen l.yielded);
    }
