use Rattle.snippet_strokes.proofs.Common.{◌≡◌, ◌++◌, drop, map, shifted}
use Rattle.snippet_strokes.proofs.squeezed.shifted_entries.Given as goal

-- the entries so far are shifted, and the others follow
abbrev pub invariant-loop-i : goal.invariant-loop-i
invariant-loop-i l = l.line.items ++ map (shifted l.dropped) (drop l.i l.entries) ≡ map (shifted l.dropped) l.entries
