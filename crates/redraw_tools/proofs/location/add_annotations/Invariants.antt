use Rattle.std.proofs.Common.{map, take}
use Rattle.std.specs.List.{flat_map}
use Rattle.serde_json.specs.View.{view}
use Rattle.redraw_tools.specs.Places.{Adds, annotations_of}
use Rattle.redraw_tools.specs.Rule.{part_data, rule_data}
use Rattle.redraw_tools.proofs.location.add_annotations.Given as goal

-- the places so far are those that were there and those beside the locations up to here
abbrev pub invariant-loop-index : goal.invariant-loop-index
invariant-loop-index l =
    Adds (part_data l.context.rule) (rule_data l.context.rule)
    (flat_map (annotations_of (view l.context.run.now) l.context.unit) (map view (take l.index l.value-items))) l.initial.spans.items l.spans.items
