use Rattle.snippet_parts.proofs.Common.{◌+◌, ◌-◌, arith}
use Rattle.snippet_parts.proofs.DepthLemmas.{turn-read, turn-more}
use Rattle.snippet_parts.proofs.depths.turn.Goals as goal

pub overflow_sub-depth : goal.overflow_sub-depth
overflow_sub-depth c =
    omega (
      arith,
      turn-read (λ raw. c.args.greatest - raw + 1) c.args.depths.now c.loop-depth.depths c.loop-depth.depth-index c.loop-depth.invariant
          (omega arith),
      c.requires.most c.loop-depth.depth-index 0 (omega arith),
    )

pub loop-depth-preserved : goal.loop-depth-preserved
loop-depth-preserved c = turn-more (λ raw. c.args.greatest - raw + 1) c.args.depths.now c.loop-depth.depths c.loop-depth.depth-index c.loop-depth.invariant
    (omega arith)
