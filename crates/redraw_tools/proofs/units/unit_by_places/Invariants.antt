use Rattle.std.proofs.Common.{◌≡◌, drop, map}
use Rattle.serde_json.specs.View.{view}
use Rattle.redraw_tools.specs.Units.{unit_by_places}
use Rattle.redraw_tools.proofs.units.unit_by_places.Given as goal

-- no place up to here says it
abbrev pub invariant-loop-location : goal.invariant-loop-location
invariant-loop-location l = unit_by_places (map view (drop l.location-index l.locations)) ≡ unit_by_places (map view l.locations)
