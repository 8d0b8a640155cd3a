use Rattle.snippet_parts.proofs.Common.{◌≡◌, map, take, All, filter, Source, IsLocated, is_long_span, span_entry, seen_long, HasFit}
use Rattle.snippet_parts.proofs.long_spans.given_long_spans.Given as goal

-- the spans so far, which fit the source in which they are located
abbrev pub invariant-loop-span : goal.invariant-loop-span
invariant-loop-span l =
    (map seen_long l.spans.items ≡ map span_entry (filter is_long_span (take l.span-index l.located)))
    × ((s : Source) → All (IsLocated s) l.located → All (HasFit s) l.spans.items)
