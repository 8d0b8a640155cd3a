use Rattle.snippet_splice.proofs.Common.{take}
use Rattle.snippet_splice.proofs.SeenLemmas.{AreTrimmed}
use Rattle.snippet_splice.proofs.patches.trimmed_patches.Given as goal

-- the patches so far are trimmed
abbrev pub invariant-loop-patch : goal.invariant-loop-patch
invariant-loop-patch l = AreTrimmed l.source (take l.patch-index l.patches) l.trimmed.items
