use Rattle.snippet_parts.proofs.Common.{◌≡◌, ◌+◌, ◌-◌, ◌++◌, map, range_with_len, bar_part, seen_long}
use Rattle.snippet_parts.proofs.span_entries.push_bars.Given as goal

-- the bars so far
abbrev pub invariant-loop-line : goal.invariant-loop-line
invariant-loop-line l =
    l.entries.items ≡ l.initial.entries.items
    ++ map (λ k. bar_part (seen_long l.span) l.depth (l.source.first + k)) (range_with_len (l.first + 1) (l.line - (l.first + 1)))
