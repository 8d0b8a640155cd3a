use Rattle.snippet_strokes.proofs.Common.{arith}
use Rattle.snippet_strokes.proofs.EntryBarLaws.{column_of-none, column_painted}
use Rattle.snippet_strokes.proofs.Common.{common_steps}
use Rattle.snippet_strokes.proofs.corners.draw_bar.Goals as goal

pub loop-row-init : goal.loop-row-init
loop-row-init g c = grind (arith, column_of-none, c.args.bar, g.C.Canvas.rows, c.args.buffer.now, c.args.start)

pub loop-row-preserved : goal.loop-row-preserved
loop-row-preserved g c = grind (arith, common_steps, column_painted)

pub returns : goal.returns
returns g c =
    grind (arith, c.args.bar, c.loop-row.row, c.args.end, c.requires.ordered, c.loop-row.invariant, c.args.start, g.C.Canvas.rows, c.args.buffer.now)
