use Rattle.snippet_strokes.proofs.Common.{◌≡◌, ◌++◌, drop, length, look_ends}
use Rattle.snippet_strokes.proofs.cuts.look_ends.Given as goal

-- the ends so far are there, and the others follow
abbrev pub invariant-loop-i : goal.invariant-loop-i
invariant-loop-i l =
    (l.ends.items ++ look_ends l.i (drop l.i l.placed) ≡ look_ends 0 l.placed) × (length l.ends.items ≡ l.i)
