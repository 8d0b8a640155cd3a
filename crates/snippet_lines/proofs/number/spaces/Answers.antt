use Rattle.snippet_lines.proofs.Common.{arith, replicate_more}
use Rattle.snippet_lines.proofs.number.spaces.Goals as goal

pub loop-init : goal.loop-init
loop-init c = c.in_ok-text.ensures.bytes

pub loop-preserved : goal.loop-preserved
loop-preserved c = grind (arith, c.in_ok-push.ensures.bytes, c.loop.text, c.loop.invariant, replicate_more, c.loop.counter)

pub returns : goal.returns
returns c = grind (arith, c.loop.counter, c.loop.invariant)
