use Rattle.snippet_titles.proofs.Common.{◌∙◌, ap, sym, separator_cell, on_ok_weaker}
use Rattle.snippet_titles.proofs.FileRowLemmas.{closing_row-begun}
use Rattle.snippet_titles.proofs.separators.draw_closing.Goals as goal

pub returns : goal.returns
returns c =
    let wrote = rw (c.separator_cell.ensures.value ∙ ap separator_cell (sym c.layout.view_is)) at c.puts.ensures.ok in
    rw (← c.layout.view_is) (record {
      row = on_ok_weaker c.puts.result
          (λ writes. closing_row-begun c.args.buffer.now c.puts.new.self c.num_lines-row.result c.layout.inside.gutter c.closing.result.now
          c.layout.inside.decor c.num_lines-row.ensures.count c.closing.ensures.value writes) wrote;
    })
