use Rattle.snippet_shown.proofs.Common.{take, AllZip, IsAnnotationAsSet}
use Rattle.snippet_shown.proofs.as_set.markers.annotations_as_set.Given as goal

abbrev pub invariant-loop-annotation : goal.invariant-loop-annotation
invariant-loop-annotation l = AllZip (IsAnnotationAsSet l.feeds) (take l.annotation-index l.annotations) l.set.items
