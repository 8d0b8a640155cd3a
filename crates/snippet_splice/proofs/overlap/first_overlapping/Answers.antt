use Rattle.snippet_splice.proofs.Common.{arith}
use Rattle.snippet_splice.proofs.OverlapLemmas.{overlap-seen}
use Rattle.snippet_splice.proofs.overlap.first_overlapping.Goals as goal

pub loop-second-preserved : goal.loop-second-preserved
loop-second-preserved c = grind (arith, overlap-seen)
