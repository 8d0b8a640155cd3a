use Rattle.snippet_parts.proofs.Common.{◌≡◌, [], map, take, seen_kept, line_with}
use Rattle.snippet_parts.proofs.annotated_lines.bare_lines.Given as goal

-- the lines so far
abbrev pub invariant-loop-line : goal.invariant-loop-line
invariant-loop-line l = map seen_kept l.lines.items ≡ map (line_with l.source l.seen []) (take l.line-index l.kept)
