use Rattle.snippet_shown.proofs.Common.{AllZip, IsPatchMasked}
use Rattle.snippet_shown.proofs.mask.markers.patches_masked.Given as goal

abbrev pub invariant-loop-patch : goal.invariant-loop-patch
invariant-loop-patch l = AllZip IsPatchMasked l.yielded l.masked.items
