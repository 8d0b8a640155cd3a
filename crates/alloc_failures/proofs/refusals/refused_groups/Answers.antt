use Rattle.annotate_snippets.specs.Fits.{GroupFits}
use Rattle.alloc_failures.proofs.Lists.{all_push}
use Rattle.alloc_failures.proofs.refusals.refused_groups.Goals as goal

pub loop-kind-preserved : goal.loop-kind-preserved
loop-kind-preserved c = all_push GroupFits _ _ _ c.in_ok-push.ensures.items c.loop-kind.invariant c.in_ok-built.ensures.fits
