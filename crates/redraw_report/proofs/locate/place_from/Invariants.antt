use Rattle.std.proofs.Common.{◌≡◌, ◌+◌, ◌-◌, ◌≤◌, drop}
use Rattle.redraw_report.specs.Region.{place_in_bytes}
use Rattle.redraw_report.proofs.locate.place_from.Given as goal

-- the place is that after the units that are left, from here on
abbrev pub invariant-loop-at : goal.invariant-loop-at
invariant-loop-at l =
    record {
      place : place_in_bytes l.unit l.at (l.before + (l.units - l.left)) (drop l.at l.bytes) l.left ≡ place_in_bytes l.unit 0 l.before l.bytes l.units;
      left : l.left ≤ l.units;
    }
