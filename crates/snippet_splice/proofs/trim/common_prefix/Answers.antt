use Rattle.snippet_splice.proofs.Common.{arith, take-take, IsUtf8-take, IsCharBoundary-from_take}
use Rattle.snippet_splice.proofs.Common.{common_steps}
use Rattle.snippet_splice.proofs.trim.common_prefix.Goals as goal

pub returns-clause-same : goal.returns-clause-same
returns-clause-same c = grind (arith, common_steps, take-take)

pub returns-clause-other_border : goal.returns-clause-other_border
returns-clause-other_border c = grind (arith, IsCharBoundary-from_take, returns-clause-same, IsUtf8-take)
