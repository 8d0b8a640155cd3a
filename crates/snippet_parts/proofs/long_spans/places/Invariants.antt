use Rattle.snippet_parts.proofs.Common.{◌≡◌, map, take, long_place, seen_long}
use Rattle.snippet_parts.proofs.long_spans.places.Given as goal

-- the places so far
abbrev pub invariant-loop-span : goal.invariant-loop-span
invariant-loop-span l = l.places.items ≡ map (λ span. long_place (seen_long span)) (take l.span-index l.spans)
