use Rattle.snippet_shown.proofs.Common.{common_steps, arith, all_zip_more}
use Rattle.snippet_shown.proofs.as_set.markers.patches_lent.Goals as goal

pub loop-patch-preserved : goal.loop-patch-preserved
loop-patch-preserved c = grind (arith, common_steps, c.loop-patch.patch-index, all_zip_more, c.loop-patch.invariant, c.patch-item.is, c.patch_lent.ensures.same)
