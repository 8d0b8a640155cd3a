use Rattle.snippet_suggest.proofs.Common.{arith, end-line, common_steps}
use Rattle.snippet_suggest.proofs.PreparedLemmas.{first_end-of}
use Rattle.snippet_suggest.proofs.prepared.first_end_number.Goals as goal

pub returns-in-Some : goal.returns-in-Some
returns-in-Some c = grind (arith, common_steps, end-line, first_end-of)
