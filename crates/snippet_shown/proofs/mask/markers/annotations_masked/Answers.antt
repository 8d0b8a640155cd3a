use Rattle.snippet_shown.proofs.Common.{YieldsList-from_vec, YieldsList-end, IsAnnotationMasked}
use Rattle.snippet_shown.proofs.ReportLemmas.{zip_all, zip_more}
use Rattle.snippet_shown.proofs.mask.markers.annotations_masked.Goals as goal

pub loop-annotation-preserved : goal.loop-annotation-preserved
loop-annotation-preserved c =
    zip_more IsAnnotationMasked c.loop-annotation.yielded c.loop-annotation.masked.items _ c.in-Some.annotation c.in_ok-annotation_masked.field-0
    c.in_ok-push.ensures.items c.loop-annotation.invariant c.in_ok-annotation_masked.ensures.masked

pub returns : goal.returns
returns c =
    let end = YieldsList-end (YieldsList-from_vec c.args.annotations.items (cc) (cc)) c.loop-annotation.yielded c.loop-annotation.annotation-iterator
    c.loop-annotation.yielded_by c.next.result c.next.new.self c.in-None.is c.next.ensures.steps in
    record { masked = zip_all IsAnnotationMasked c.loop-annotation.yielded _ c.loop-annotation.masked.items end.0 c.loop-annotation.invariant }
