use Rattle.std.proofs.Common.{◌≡◌, ◌++◌, map, take}
use Rattle.std.specs.List.{filter_map}
use Rattle.serde_json.specs.View.{view}
use Rattle.redraw_tools.specs.Found.{place_view}
use Rattle.redraw_tools.specs.Lsp.{related_place}
use Rattle.redraw_tools.proofs.lsp.spans_of.Given as goal

-- the places so far are the document's and those of the related ones up to here
abbrev pub invariant-loop-index : goal.invariant-loop-index
invariant-loop-index l =
    map place_view l.spans.items
    ≡ map place_view l.initial.spans.items ++ filter_map related_place (map view (take l.index l.value-items))
