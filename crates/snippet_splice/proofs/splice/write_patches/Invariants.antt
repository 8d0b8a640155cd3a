use Rattle.snippet_splice.proofs.Common.{drop, map, string_bytes, trimmed_edit_of}
use Rattle.snippet_splice.proofs.WriteLemmas.{Writes}
use Rattle.snippet_splice.proofs.splice.write_patches.Given as goal

-- what is left completes what is to be written
abbrev pub invariant-loop-patch : goal.invariant-loop-patch
invariant-loop-patch l =
    Writes l.source l.from (map trimmed_edit_of l.patches) (string_bytes l.text) l.ranges.items l.feeds l.end
    (map trimmed_edit_of (drop l.patch-index l.patches))
