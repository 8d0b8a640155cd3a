-- No element so far is an annotated snippet.
use Rattle.annotate_snippets.proofs.Common.{◌≡◌, drop, first_cause}
use Rattle.annotate_snippets.proofs.renderer.short.first_cause.Given as goal

abbrev pub invariant-loop-element : goal.invariant-loop-element
invariant-loop-element l = first_cause l.element-items ≡ first_cause (drop l.element-index l.element-items)
