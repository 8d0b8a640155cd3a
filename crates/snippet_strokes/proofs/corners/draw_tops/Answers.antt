use Rattle.snippet_strokes.proofs.Common.{◌∙◌, ◌-◌, arith, take_all, top_of}
use Rattle.snippet_strokes.proofs.WriteLaws.{painted_more}
use Rattle.snippet_strokes.proofs.Common.{common_steps}
use Rattle.snippet_strokes.proofs.corners.draw_tops.Goals as goal

pub loop-entry-preserved : goal.loop-entry-preserved
loop-entry-preserved c =
    c.in_ok-draw_top_of_end.ensures.painted ∙ painted_more (top_of c.args.layout (c.num_lines-row.result - 1)) c.args.placed.now c.loop-entry.entry-index
    c.entry-item.result c.args.buffer.now c.loop-entry.buffer c.loop-entry-test.true c.entry-item.is c.loop-entry.invariant

pub returns : goal.returns
returns c = grind (arith, common_steps, take_all)
