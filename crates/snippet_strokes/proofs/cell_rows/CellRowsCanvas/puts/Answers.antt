use Rattle.snippet_strokes.proofs.Common.{◌∙◌, on_ok_weaker}
use Rattle.snippet_strokes.proofs.CellRowLemmas.{row_written}
use Rattle.snippet_strokes.proofs.cell_rows.CellRowsCanvas.puts.Goals as goal

pub returns-clause-ok : goal.returns-clause-ok
returns-clause-ok c =
    on_ok_weaker c.write_text.result (λ writes some. row_written c.args.self.now c.self.inside.rows.items c.index_mut.result.now c.write_text.new.cells
    c.args.row c.args.cell _ (c.self.view_is ∙ c.in_ok-make_row.ensures.made) c.index_mut.ensures.value writes) c.write_text.ensures.written
