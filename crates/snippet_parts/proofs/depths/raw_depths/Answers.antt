use Rattle.snippet_parts.proofs.Common.{common_steps, ◌+◌, ◌-◌, arith}
use Rattle.snippet_parts.proofs.DepthSearchLemmas.{after_in, filled}
use Rattle.snippet_parts.proofs.depths.raw_depths.Goals as goal

pub raw_depth-requires-clause-after : goal.raw_depth-requires-clause-after
raw_depth-requires-clause-after c = after_in c.args.places.now (c.loop-i.i - 1) (c.loop-i.i - 1 + 1) c.requires.ordered (omega arith) (omega arith)

pub loop-i-preserved : goal.loop-i-preserved
loop-i-preserved c = grind (arith, common_steps, c.loop-i.i, filled, c.loop-i.invariant.1, c.loop-i.invariant.0, c.raw_depth.ensures.value)
