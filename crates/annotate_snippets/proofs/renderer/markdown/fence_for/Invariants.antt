use Rattle.annotate_snippets.proofs.Common.{◌≡◌, replicate, string_bytes}
use Rattle.annotate_snippets.proofs.renderer.markdown.fence_for.Given as goal

-- so many backquotes
abbrev pub invariant-loop : goal.invariant-loop
invariant-loop l = string_bytes l.fence ≡ replicate l.counter 96
