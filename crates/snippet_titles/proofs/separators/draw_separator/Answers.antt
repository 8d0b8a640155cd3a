use Rattle.snippet_titles.proofs.Common.{◌∙◌, ap, sym, separator_cell, on_ok_weaker}
use Rattle.snippet_titles.proofs.FileRowLemmas.{separator_row-begun}
use Rattle.snippet_titles.proofs.separators.draw_separator.Goals as goal

pub returns : goal.returns
returns c =
    let wrote = rw (c.separator_cell.ensures.value ∙ ap separator_cell (sym c.layout.view_is)) at c.putc.ensures.ok in
    rw (← c.layout.view_is) (record {
      row = on_ok_weaker c.putc.result
          (λ writes. separator_row-begun c.args.buffer.now c.putc.new.self c.num_lines-row.result c.layout.inside.gutter c.separator.result
          c.layout.inside.decor c.num_lines-row.ensures.count c.separator.ensures.value writes) wrote;
    })
