use Rattle.snippet_lines.proofs.Common.{◌≡◌, ◌+◌, drop, line_length}
use Rattle.snippet_lines.proofs.text_lines.line_length.Given as goal

-- the line goes on up to here
abbrev pub invariant-loop-at : goal.invariant-loop-at
invariant-loop-at l = l.at + line_length (drop l.at l.bytes) ≡ line_length l.bytes
