use Rattle.snippet_suggest.proofs.Common.{arith, length-append, on_ok_weaker, common_steps}
use Rattle.snippet_suggest.proofs.PutLemmas.{begin_next, begin_opening, begin_path}
use Rattle.snippet_suggest.proofs.ends.draw_head.Goals as goal

pub returns-in-Opening : goal.returns-in-Opening
returns-in-Opening c = grind (arith, common_steps, length-append, on_ok_weaker, begin_opening)

pub returns-in-Next : goal.returns-in-Next
returns-in-Next c = grind (arith, common_steps, length-append, on_ok_weaker, begin_next)

pub returns-in-Path : goal.returns-in-Path
returns-in-Path c = grind (arith, begin_path, c.args.layout.now, c.args.buffer.now, c.in-Path.is)
