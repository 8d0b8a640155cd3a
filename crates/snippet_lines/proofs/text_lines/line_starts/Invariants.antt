use Rattle.snippet_lines.proofs.Common.{◌≡◌, ◌++◌, drop, start_bytes, starts_after}
use Rattle.snippet_lines.proofs.text_lines.line_starts.Given as goal

-- the starts so far, and those after the bytes that are left, are all
abbrev pub invariant-loop-at : goal.invariant-loop-at
invariant-loop-at l = l.starts.items ++ starts_after l.at (drop l.at l.text) ≡ start_bytes l.text
