use Rattle.snippet_splice.proofs.Common.{◌≡◌, ◌<◌, ℕ, false, map, edit_of, overlap_at}
use Rattle.snippet_splice.proofs.overlap.first_overlapping.Given as goal

-- no later patch so far overlaps
abbrev pub invariant-loop-second : goal.invariant-loop-second
invariant-loop-second l =
    (k : ℕ) → l.first < k → k < l.second → overlap_at (map edit_of l.patches) l.first k ≡ false
