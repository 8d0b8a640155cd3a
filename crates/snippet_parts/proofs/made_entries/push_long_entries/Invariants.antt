use Rattle.snippet_parts.proofs.Common.{◌≡◌, ◌++◌, [], map, take, drop, long_parts, long_place, seen_long}
use Rattle.snippet_parts.proofs.made_entries.push_long_entries.Given as goal

-- the entries so far, and those of the spans from here on
abbrev pub invariant-loop-i : goal.invariant-loop-i
invariant-loop-i l =
    l.entries.items ++ long_parts l.source (map long_place (map seen_long l.spans)) (take l.i (map seen_long l.spans))
    (drop l.i (map seen_long l.spans)) ≡ l.initial.entries.items
    ++ long_parts l.source (map long_place (map seen_long l.spans)) [] (map seen_long l.spans)
