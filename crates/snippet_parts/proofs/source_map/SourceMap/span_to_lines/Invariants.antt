-- The lines so far are those from the first on.
use Rattle.snippet_parts.proofs.Common.{◌≡◌, ◌-◌, map, range_with_len, source_lines, table_entry, entry_at}
use Rattle.snippet_parts.proofs.source_map.SourceMap.span_to_lines.Given as goal

abbrev pub invariant-loop-index : goal.invariant-loop-index
invariant-loop-index l =
    map table_entry l.lines.items ≡ map (entry_at l.self.first (source_lines l.self.text)) (range_with_len l.first (l.index - l.first))
