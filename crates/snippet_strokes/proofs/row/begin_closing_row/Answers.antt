use Rattle.snippet_strokes.proofs.Common.{◌∙◌, ◌+◌, ap, sym, separator_cell, on_ok_weaker, closing_of, begun_by_text, closing_some}
use Rattle.snippet_strokes.proofs.row.begin_closing_row.Goals as goal

pub returns-clause-added : goal.returns-clause-added
returns-clause-added g c =
    let wrote = rw (c.separator_cell.ensures.value ∙ ap separator_cell (sym c.layout.view_is)) at c.puts.ensures.ok in
    rw (← c.layout.view_is) (on_ok_weaker c.puts.result
    (λ writes. begun_by_text (g.C.Canvas.rows c.args.buffer.now) (g.C.Canvas.rows c.puts.new.self) c.num_lines-row.result (c.layout.inside.gutter + 1)
    c.closing.result.now (closing_of c.layout.inside.decor) c.num_lines-row.ensures.count c.closing.ensures.value (closing_some c.layout.inside.decor)
    writes) wrote)
