use Rattle.snippet_strokes.proofs.Common.{◌≡◌, ◌++◌, drop, length, overlapped_by}
use Rattle.snippet_strokes.proofs.cuts.overlapped.Given as goal

-- the flags so far are there, and the others follow
abbrev pub invariant-loop-k : goal.invariant-loop-k
invariant-loop-k l =
    (l.flags.items ++ overlapped_by l.placed l.ends l.k (drop l.k l.placed) ≡ overlapped_by l.placed l.ends 0 l.placed) × (length l.flags.items ≡ l.k)
