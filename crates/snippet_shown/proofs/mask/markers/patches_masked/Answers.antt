use Rattle.snippet_shown.proofs.Common.{YieldsList-from_vec, YieldsList-end, IsPatchMasked}
use Rattle.snippet_shown.proofs.ReportLemmas.{zip_all, zip_more}
use Rattle.snippet_shown.proofs.mask.markers.patches_masked.Goals as goal

pub loop-patch-preserved : goal.loop-patch-preserved
loop-patch-preserved c =
    zip_more IsPatchMasked c.loop-patch.yielded c.loop-patch.masked.items _ c.in-Some.patch c.in_ok-patch_masked.field-0
    c.in_ok-push.ensures.items c.loop-patch.invariant c.in_ok-patch_masked.ensures.masked

pub returns : goal.returns
returns c =
    let end = YieldsList-end (YieldsList-from_vec c.args.patches.items (cc) (cc)) c.loop-patch.yielded c.loop-patch.patch-iterator
    c.loop-patch.yielded_by c.next.result c.next.new.self c.in-None.is c.next.ensures.steps in
    record { masked = zip_all IsPatchMasked c.loop-patch.yielded _ c.loop-patch.masked.items end.0 c.loop-patch.invariant }
