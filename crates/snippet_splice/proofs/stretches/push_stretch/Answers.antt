use Rattle.snippet_splice.proofs.Common.{arith, length-set}
use Rattle.snippet_splice.proofs.StretchLemmas.{line_set}
use Rattle.snippet_splice.proofs.stretches.push_stretch.Goals as goal

pub returns-in_ok-push : goal.returns-in_ok-push
returns-in_ok-push c = grind (arith, line_set, length-set)
