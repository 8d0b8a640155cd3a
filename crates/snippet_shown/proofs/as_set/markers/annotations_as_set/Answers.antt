use Rattle.snippet_shown.proofs.Common.{◌<◌, length, arith, IsAnnotationAsSet, all_zip_more}
use Rattle.snippet_shown.proofs.as_set.markers.annotations_as_set.Goals as goal

pub loop-annotation-preserved : goal.loop-annotation-preserved
loop-annotation-preserved c =
    let within : c.loop-annotation.annotation-index < length c.args.annotations.now = grind arith in
    all_zip_more (IsAnnotationAsSet c.args.feeds) c.args.annotations.now c.loop-annotation.annotation-index c.loop-annotation.set.items _
    c.annotation-item.result
    c.in_ok-annotation_as_set.field-0 within c.in_ok-push.ensures.items c.loop-annotation.invariant c.annotation-item.is c.in_ok-annotation_as_set.ensures.set
