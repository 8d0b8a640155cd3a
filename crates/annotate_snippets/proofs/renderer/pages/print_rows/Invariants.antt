-- The pages so far grew by the rows, and those from here on are as they were.
use Rattle.annotate_snippets.proofs.SheetPages.{GrewSoFar}
use Rattle.annotate_snippets.proofs.renderer.pages.print_rows.Given as goal

abbrev pub invariant-loop-page : goal.invariant-loop-page
invariant-loop-page l = GrewSoFar l.is_first l.level l.rows l.page-index l.initial.pages l.pages
