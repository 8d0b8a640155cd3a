use Rattle.std.proofs.Common.{map, take}
use Rattle.std.specs.List.{filter_map}
use Rattle.serde_json.specs.View.{view}
use Rattle.redraw_tools.specs.Places.{Adds, place_in}
use Rattle.redraw_tools.specs.Rule.{part_data, rule_data}
use Rattle.redraw_tools.proofs.location.add_spans.Given as goal

-- the places so far are those that were there and those of the locations up to here
abbrev pub invariant-loop-index : goal.invariant-loop-index
invariant-loop-index l =
    Adds (part_data l.context.rule) (rule_data l.context.rule)
    (filter_map (place_in (view l.context.run.now) l.context.unit l.is_primary) (map view (take l.index l.value-items))) l.initial.spans.items l.spans.items
