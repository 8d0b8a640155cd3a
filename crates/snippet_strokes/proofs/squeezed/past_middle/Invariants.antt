use Rattle.snippet_strokes.proofs.Common.{◌≡◌, ◌++◌, drop, map, past_middle}
use Rattle.snippet_strokes.proofs.squeezed.past_middle.Given as goal

-- the entries so far have moved, and the others follow
abbrev pub invariant-loop-i : goal.invariant-loop-i
invariant-loop-i l = l.line.items ++ map (past_middle l.decor l.room l.entry) (drop l.i l.entries) ≡ map (past_middle l.decor l.room l.entry) l.entries
