use Rattle.snippet_grid.proofs.Common.{◌∙◌, ◌∷◌, [], ap, on_ok_weaker, cells_written, text_cells}
use Rattle.snippet_grid.proofs.GridShown.{WritesCells-from_equal}
use Rattle.snippet_grid.proofs.grid.StyledBuffer.putc.Goals as goal

pub returns-clause-reads : goal.returns-clause-reads
returns-clause-reads c =
    let cells = text_cells c.args.role (c.args.ch ∷ []) in
    on_ok_weaker c.write_char.result
    (λ is. WritesCells-from_equal c.args.self.now c.write_char.new.cells.rows c.args.row c.args.cell cells
    (is ∙ ap (λ rows. cells_written rows c.args.row c.args.cell cells) c.self.view_is)) c.write_char.ensures.ok
