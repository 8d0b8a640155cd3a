use Rattle.annotate_snippets.proofs.Common.{◌≡◌, ◌≤◌, drop}
use Rattle.annotate_snippets.specs.Markdown as spec
use Rattle.annotate_snippets.proofs.renderer.markdown.longest_run.Given as goal

-- the longest run so far, and with what is left that of all; no run is longer than what is looked at
abbrev pub invariant-loop-byte : goal.invariant-loop-byte
invariant-loop-byte l =
    (spec.longest_run l.longest l.run (drop l.byte-index l.page) ≡ spec.longest_run 0 0 l.page)
    × (l.longest ≤ l.byte-index) × (l.run ≤ l.byte-index)
