use Rattle.std.proofs.Common.{◌≡◌, map, take}
use Rattle.std.specs.List.{flat_map}
use Rattle.serde_json.specs.View.{view}
use Rattle.redraw_tools.specs.Edits.{edit_view, edits_if_named}
use Rattle.redraw_tools.proofs.fixes.edits_in.Given as goal

-- the edits of the changes up to here
abbrev pub invariant-loop-index : goal.invariant-loop-index
invariant-loop-index l =
    map edit_view l.edits.items ≡ flat_map (edits_if_named (view l.context.run.now) l.context.unit) (map view (take l.index l.value-items))
