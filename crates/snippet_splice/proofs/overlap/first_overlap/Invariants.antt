use Rattle.snippet_splice.proofs.Common.{◌≡◌, ◌<◌, ℕ, false, length, map, edit_of, overlap_at}
use Rattle.snippet_splice.proofs.overlap.first_overlap.Given as goal

-- no patch so far overlaps with a later one
abbrev pub invariant-loop-first : goal.invariant-loop-first
invariant-loop-first l =
    (m n : ℕ) → m < l.first → m < n → n < length l.patches → overlap_at (map edit_of l.patches) m n ≡ false
