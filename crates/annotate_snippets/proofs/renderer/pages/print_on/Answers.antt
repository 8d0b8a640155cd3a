use Rattle.std.proofs.lemmas.Grind.{common_steps}
use Rattle.annotate_snippets.proofs.Common.{arith}
use Rattle.annotate_snippets.proofs.WriteLemmas.{rows_added}
use Rattle.annotate_snippets.proofs.renderer.pages.print_on.Goals as goal

pub returns : goal.returns
returns c = grind (arith, common_steps, rows_added)
