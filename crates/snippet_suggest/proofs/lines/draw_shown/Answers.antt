use Rattle.std.proofs.Common.{arith}
use Rattle.snippet_suggest.proofs.Common.{append-nil, common_steps}
use Rattle.snippet_suggest.proofs.RowsDrawn.{drawn_next}
use Rattle.snippet_suggest.proofs.lines.draw_shown.Goals as goal

pub loop-line-init : goal.loop-line-init
loop-line-init c = grind (arith, append-nil, c.args.buffer.now)

pub loop-line-preserved : goal.loop-line-preserved
loop-line-preserved c = grind (arith, common_steps, drawn_next)
