-- The number has grown by the lines that the patches so far may add, and fits.
use Rattle.annotate_snippets.proofs.Common.{◌≡◌, ◌+◌, ◌<◌, ◌^◌, take, cow_str_bytes, added_lines, number_after_lines}
use Rattle.annotate_snippets.proofs.renderer.validate.patched_end_number.Given as goal

abbrev pub invariant-loop-patch : goal.invariant-loop-patch
invariant-loop-patch l =
    (l.end ≡ number_after_lines l.line_start (cow_str_bytes l.source.text) + added_lines (take l.patch-index l.patches)) × (l.end < 2 ^ 64)
