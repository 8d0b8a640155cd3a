-- What the text has and may still take is no more than it was at first, and the characters so far; it is what these make of it.
use Rattle.std.proofs.Common.{◌≡◌, ◌+◌, ◌≤◌, encode_utf8_all, length, map}
use Rattle.serde_json.specs.View.{view}
use Rattle.redraw_tools.specs.Filling.{start, taken_all, way, weight}
use Rattle.redraw_tools.proofs.placeholders.filled.Given as goal

abbrev pub invariant-loop-c : goal.invariant-loop-c
invariant-loop-c l =
    (weight l.filling ≤ weight l.initial.filling + length (encode_utf8_all l.yielded))
    × (way l.filling ≡ taken_all (map view l.arguments) start l.yielded)
