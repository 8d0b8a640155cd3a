use Rattle.snippet_splice.proofs.Common.{◌≤◌, ◌+◌, ◌<◌, ℕ, get_or, map, edit_of, no_edit}
use Rattle.snippet_splice.proofs.overlap.stand_apart.Given as goal

-- each patch so far ends by the start of the next
abbrev pub invariant-loop-i : goal.invariant-loop-i
invariant-loop-i l =
    (k : ℕ) → k + 1 < l.i → (get_or (map edit_of l.patches) k no_edit).end ≤ (get_or (map edit_of l.patches) (k + 1) no_edit).start
