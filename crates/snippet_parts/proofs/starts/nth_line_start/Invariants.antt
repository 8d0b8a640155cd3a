-- The start so far is that of the line that was reached.
use Rattle.snippet_parts.proofs.Common.{◌≡◌, source_lines, start_of}
use Rattle.snippet_parts.proofs.starts.nth_line_start.Given as goal

abbrev pub invariant-loop-line : goal.invariant-loop-line
invariant-loop-line l = l.start ≡ start_of (source_lines l.source) l.line
