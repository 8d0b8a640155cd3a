use Rattle.snippet_lines.proofs.Common.{ℕ, ◌<◌, ◌≤◌, length, IsCharBoundary}
use Rattle.snippet_lines.proofs.clamp.border_before.Given as goal

-- no border lies between here and the byte
abbrev pub invariant-loop-at : goal.invariant-loop-at
invariant-loop-at l =
    record {
      before : l.at ≤ l.byte;
      within : l.at ≤ length l.text;
      none : (k : ℕ) → l.at < k → k ≤ l.byte → k ≤ length l.text → IsCharBoundary l.text k → ⊥;
    }

abbrev pub decreases-loop-at : goal.decreases-loop-at
decreases-loop-at l = l.at
