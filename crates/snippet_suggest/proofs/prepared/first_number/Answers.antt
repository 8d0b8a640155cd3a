use Rattle.std.proofs.Common.{arith}
use Rattle.std.proofs.lemmas.Grind.{common_steps}
use Rattle.snippet_suggest.proofs.Common.{start-line}
use Rattle.snippet_suggest.proofs.PreparedLemmas.{first_original-of}
use Rattle.snippet_suggest.proofs.prepared.first_number.Goals as goal

pub returns-in-Some : goal.returns-in-Some
returns-in-Some c = grind (arith, common_steps, start-line, first_original-of)
