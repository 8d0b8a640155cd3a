use Rattle.snippet_parts.proofs.Common.{◌≡◌, ℕ, take, list_any, keeps, LocatedSpan, is_held}
use Rattle.snippet_parts.proofs.kept.folded_lines.Given as goal

-- the lines that the spans so far keep
abbrev pub invariant-loop-span : goal.invariant-loop-span
invariant-loop-span l =
    (k : ℕ) → is_held l.stretches.items k ≡ list_any (λ (x : LocatedSpan). keeps l.source.text k x.annotation.now) (take l.span-index l.located)
