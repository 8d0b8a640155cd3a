use Rattle.snippet_suggest.proofs.Common.{row_at, ◌++◌, arith, common_steps}
use Rattle.snippet_suggest.proofs.RowsDrawn.{emptied_begun, emptied_done, emptied_next, numbered_all}
use Rattle.snippet_suggest.proofs.removed.draw_removed_lines.Goals as goal

pub loop-info-init : goal.loop-info-init
loop-info-init c = grind (arith, common_steps, emptied_begun)

pub loop-info-preserved : goal.loop-info-preserved
loop-info-preserved c =
    record {
      small = c.num_lines-row.ensures.small;
      cells = λ above tail here is few.
          let l = c.args.layout.now in
          let i = c.loop-info.info-index in
          let infos = c.args.lines.now in
          let so_far = c.loop-info.invariant.cells above tail here is few in
          let adds = c.in_ok-draw_removed_line.ensures.cells (above ++ so_far.rows) so_far.tail so_far.here so_far.stands so_far.few in
          emptied_next l above (row_at tail 0) infos _ c.loop-info.row i c.num_lines-row.result c.loop-info.buffer c.draw_removed_line.new.buffer so_far
          c.loop-info-test.true adds c.num_lines-row.ensures.count;
    }

pub returns : goal.returns
returns c = grind (arith, common_steps, emptied_done, numbered_all)
