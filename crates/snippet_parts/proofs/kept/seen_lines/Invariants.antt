use Rattle.snippet_parts.proofs.Common.{◌≡◌, ℕ, take, list_any, LocatedSpan, is_held, is_seen}
use Rattle.snippet_parts.proofs.kept.seen_lines.Given as goal

-- the lines that the spans so far touch which aren't marked
abbrev pub invariant-loop-span : goal.invariant-loop-span
invariant-loop-span l =
    (k : ℕ) → is_held l.stretches.items k ≡ list_any (λ (x : LocatedSpan). is_seen l.source.text k x.annotation.now) (take l.span-index l.located)
