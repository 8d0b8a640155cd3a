use Rattle.snippet_grid.proofs.Common.{arith}
use Rattle.snippet_grid.proofs.TouchLemmas.{clear_all}
use Rattle.snippet_grid.proofs.put.first_touched.Goals as goal

pub returns-else-not-is_clear-clause-before : goal.returns-else-not-is_clear-clause-before
returns-else-not-is_clear-clause-before c =
    clear_all c.args.runs.now c.args.run.now _ c.loop-start.start c.requires.ordered
    (omega (arith, c.loop-start.invariant.within, c.requires.within)) c.loop-start-test.true (c.is_clear.ensures.yes c.if-not-is_clear.false)
