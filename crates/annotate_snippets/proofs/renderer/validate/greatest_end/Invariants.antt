-- The number is no less than that after the lines so far, and fits.
use Rattle.annotate_snippets.proofs.Common.{◌+◌, ◌<◌, ◌≤◌, ◌^◌, take, added_lines, number_after_lines}
use Rattle.annotate_snippets.proofs.renderer.validate.greatest_end.Given as goal

abbrev pub invariant-loop-patch : goal.invariant-loop-patch
invariant-loop-patch l =
    (number_after_lines l.line_start l.source + added_lines (take l.patch-index l.patches) ≤ l.most) × (l.most < 2 ^ 64)
