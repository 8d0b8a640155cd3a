use Rattle.snippet_parts.proofs.Common.{◌≡◌, ℕ, List, [], length, map, take, seen_kept, line_with}
use Rattle.snippet_parts.proofs.annotated_lines.add_entries.Given as goal

-- the lines have the entries so far
abbrev pub invariant-loop-entry : goal.invariant-loop-entry
invariant-loop-entry l = record {
  count : length l.lines ≡ length l.initial.lines;
  added : (seen : List ℕ) → map seen_kept l.initial.lines ≡ map (line_with l.source seen []) l.kept
      → map seen_kept l.lines ≡ map (line_with l.source seen ((take l.entry-index l.entries))) l.kept;
}
