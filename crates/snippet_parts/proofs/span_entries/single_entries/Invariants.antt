use Rattle.snippet_parts.proofs.Common.{◌≡◌, map, take, filter, is_short_span, short_part}
use Rattle.snippet_parts.proofs.span_entries.single_entries.Given as goal

-- the entries so far
abbrev pub invariant-loop-span : goal.invariant-loop-span
invariant-loop-span l = l.entries.items ≡ map short_part (filter is_short_span (take l.span-index l.located))
