use Rattle.snippet_parts.proofs.Common.{◌≡◌, ℕ, ◌+◌, ◌≤◌, take, IfSome}
use Rattle.snippet_parts.proofs.BestLemmas.{BestOf}
use Rattle.snippet_parts.proofs.mark.mark_of.Given as goal

-- the best of the spans so far
abbrev pub invariant-loop-annotation : goal.invariant-loop-annotation
invariant-loop-annotation l =
    ((k : ℕ) → l.line ≡ l.source.first + k → BestOf l.source.text (take l.annotation-index l.annotations) k l.column l.best)
    × IfSome l.best (λ _. l.source.first ≤ l.line)
