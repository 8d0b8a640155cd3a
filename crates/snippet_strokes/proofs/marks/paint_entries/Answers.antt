use Rattle.snippet_strokes.proofs.Common.{◌∙◌, arith, take_all, mark_of}
use Rattle.snippet_strokes.proofs.WriteLaws.{painted_more}
use Rattle.snippet_strokes.proofs.Common.{common_steps}
use Rattle.snippet_strokes.proofs.marks.paint_entries.Goals as goal

pub loop-entry-preserved : goal.loop-entry-preserved
loop-entry-preserved g c =
    c.in_ok-paint_entry.ensures.painted ∙ painted_more (mark_of c.args.layout c.args.row) c.args.placed.now c.loop-entry.entry-index c.entry-item.result
    (g.C.Canvas.rows c.args.buffer.now) (g.C.Canvas.rows c.loop-entry.buffer) c.loop-entry-test.true c.entry-item.is c.loop-entry.invariant

pub returns : goal.returns
returns g c = grind (arith, common_steps, take_all)
