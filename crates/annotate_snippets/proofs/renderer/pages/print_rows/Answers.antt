use Rattle.annotate_snippets.proofs.Common.{arith}
use Rattle.annotate_snippets.proofs.SheetPages.{grew_all, grew_more}
use Rattle.annotate_snippets.proofs.renderer.pages.print_rows.Goals as goal

pub loop-page-preserved : goal.loop-page-preserved
loop-page-preserved c = grew_more _ _ _ _ _ _ _ _ (omega arith) c.in_ok-print_on.ensures.printed c.loop-page.invariant

pub returns : goal.returns
returns c = record { printed = grew_all _ _ _ _ _ _ (omega arith) c.loop-page.invariant }
