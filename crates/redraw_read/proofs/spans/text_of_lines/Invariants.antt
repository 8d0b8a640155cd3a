use Rattle.std.proofs.Common.{◌≡◌, ℕ, List, map, string_bytes, take}
use Rattle.std.specs.List.{AllZip}
use Rattle.serde_json.specs.View.{view}
use Rattle.redraw_read.specs.Places.{SaysLine, joined}
use Rattle.redraw_read.proofs.spans.text_of_lines.Given as goal

-- the text so far is that of the lines so far
abbrev pub invariant-loop-index : goal.invariant-loop-index
invariant-loop-index l =
    (said : List (List ℕ)) × AllZip SaysLine (map view (take l.index l.lines)) said × (string_bytes l.text ≡ joined said)
