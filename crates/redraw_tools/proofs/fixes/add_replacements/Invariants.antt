use Rattle.std.proofs.Common.{◌≡◌, ◌++◌, map, take}
use Rattle.std.specs.List.{filter_map}
use Rattle.serde_json.specs.View.{view}
use Rattle.redraw_tools.specs.Edits.{edit_in, edit_view}
use Rattle.redraw_tools.proofs.fixes.add_replacements.Given as goal

-- the edits so far are those that were there and those of the replacements up to here
abbrev pub invariant-loop-index : goal.invariant-loop-index
invariant-loop-index l =
    map edit_view l.edits.items
    ≡ map edit_view l.initial.edits.items ++ filter_map (edit_in l.context.unit l.file) (map view (take l.index l.value-items))
