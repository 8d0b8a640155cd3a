use Rattle.snippet_splice.proofs.Common.{arith}
use Rattle.snippet_splice.proofs.WriteLemmas.{last_text-at, closes-last}
use Rattle.snippet_splice.proofs.splice.closes_line.Goals as goal

pub returns-in-len1-up : goal.returns-in-len1-up
returns-in-len1-up c = grind (arith, last_text-at, closes-last)
