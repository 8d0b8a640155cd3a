use Rattle.std.proofs.lemmas.Grind.{common_steps}
use Rattle.snippet_suggest.proofs.Common.{arith, take_all}
use Rattle.snippet_suggest.proofs.MarksDrawn.{left_all, left_next, left_passed}
use Rattle.snippet_suggest.proofs.marks.Moves.before.Goals as goal

pub returns-then-self-start : goal.returns-then-self-start
returns-then-self-start c = grind (arith, left_all, c.args.start, c.if-self-start.true)

pub loop-columns-preserved : goal.loop-columns-preserved
loop-columns-preserved c = grind (arith, common_steps, left_next, left_passed)

pub returns : goal.returns
returns c = grind (arith, common_steps, take_all)
