use Rattle.std.proofs.Common.{◌≡◌, ◌++◌, map, take}
use Rattle.std.specs.List.{filter_map}
use Rattle.serde_json.specs.View.{view}
use Rattle.redraw_tools.specs.Eslint.{suggestion_in}
use Rattle.redraw_tools.specs.Found.{remark_view}
use Rattle.redraw_tools.proofs.eslint.add_suggestions.Given as goal

-- what is suggested so far is what was there and the fixes of the suggestions up to here
abbrev pub invariant-loop-index : goal.invariant-loop-index
invariant-loop-index l =
    map remark_view l.children.items
    ≡ map remark_view l.initial.children.items ++ filter_map (suggestion_in l.path) (map view (take l.index l.value-items))
