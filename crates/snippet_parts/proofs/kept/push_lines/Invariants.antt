use Rattle.snippet_parts.proofs.Common.{◌≡◌, ◌-◌, ◌++◌, range_with_len}
use Rattle.snippet_parts.proofs.kept.push_lines.Given as goal

-- the lines so far
abbrev pub invariant-loop-line : goal.invariant-loop-line
invariant-loop-line l = l.lines.items ≡ l.initial.lines.items ++ range_with_len l.from (l.line - l.from)
