use Rattle.snippet_splice.proofs.Common.{arith, length-append}
use Rattle.snippet_splice.proofs.StretchLemmas.{line_added}
use Rattle.snippet_splice.proofs.stretches.push_line.Goals as goal

pub returns : goal.returns
returns c = grind (arith, line_added, length-append)
