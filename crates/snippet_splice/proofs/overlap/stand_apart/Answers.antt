use Rattle.snippet_splice.proofs.Common.{arith}
use Rattle.snippet_splice.proofs.OverlapLemmas.{get_or-edit_of}
use Rattle.snippet_splice.proofs.overlap.stand_apart.Goals as goal

pub loop-i-preserved : goal.loop-i-preserved
loop-i-preserved c = grind (arith, get_or-edit_of)
