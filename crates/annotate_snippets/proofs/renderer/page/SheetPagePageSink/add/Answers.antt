use Rattle.std.proofs.lemmas.Grind.{common_steps}
use Rattle.annotate_snippets.proofs.Common.{arith}
use Rattle.annotate_snippets.proofs.WriteLemmas.{rows_added}
use Rattle.annotate_snippets.proofs.renderer.page.SheetPagePageSink.add.Goals as goal

pub returns-clause-took : goal.returns-clause-took
returns-clause-took c = grind (arith, common_steps, rows_added)
