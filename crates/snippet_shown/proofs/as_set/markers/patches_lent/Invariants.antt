use Rattle.snippet_shown.proofs.Common.{take, AllZip, SamePatch}
use Rattle.snippet_shown.proofs.as_set.markers.patches_lent.Given as goal

abbrev pub invariant-loop-patch : goal.invariant-loop-patch
invariant-loop-patch l = AllZip SamePatch (take l.patch-index l.patches) l.same.items
