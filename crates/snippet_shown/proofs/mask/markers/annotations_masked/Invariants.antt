use Rattle.snippet_shown.proofs.Common.{AllZip, IsAnnotationMasked}
use Rattle.snippet_shown.proofs.mask.markers.annotations_masked.Given as goal

abbrev pub invariant-loop-annotation : goal.invariant-loop-annotation
invariant-loop-annotation l = AllZip IsAnnotationMasked l.yielded l.masked.items
