use Rattle.std.proofs.Common.{arith}
use Rattle.std.proofs.lemmas.Grind.{common_steps}
use Rattle.snippet_suggest.proofs.Common.{cond-false, cond-true}
use Rattle.snippet_suggest.proofs.marks.marked_columns.Goals as goal

pub returns : goal.returns
returns c = grind (arith, common_steps, cond-true, cond-false)
