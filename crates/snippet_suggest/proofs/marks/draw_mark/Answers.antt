use Rattle.snippet_suggest.proofs.Common.{◌-◌, ◌∙◌, ◌+◌, ◌∷◌, [], ap, arith, unlinked_cell, cells_written, Addition, common_steps}
use Rattle.snippet_suggest.proofs.MarksDrawn.{marks_begun, marks_done, marks_next}
use Rattle.snippet_suggest.proofs.marks.draw_mark.Goals as goal

pub loop-column-init : goal.loop-column-init
loop-column-init c = grind (arith, marks_begun, c.args.mark, c.args.layout.now.base.gutter, c.args.start, c.args.buffer.now)

pub loop-column-preserved : goal.loop-column-preserved
loop-column-preserved c =
    let inv = c.loop-column.invariant in
    let column = c.loop-column.column in
    let start = c.args.start in
    let written = c.in_ok-putc.ensures.ok ∙ ap (λ n. cells_written c.loop-column.buffer c.args.row (n + column)
    (unlinked_cell Addition c.args.mark ∷ [])) c.inner_cell.ensures.value in
    record {
      within = omega arith;
      cells = λ above last here is. marks_next c.args.mark (c.args.layout.now.base.gutter + 3 + start) (c.args.layout.now.base.gutter + 3 + column)
          (column - start)
          (column + 1 - start) c.args.row above last c.loop-column.buffer c.putc.new.self here (omega arith) (omega arith)
          (inv.cells above last here is) written;
    }

pub returns : goal.returns
returns c = grind (arith, common_steps, marks_done)
