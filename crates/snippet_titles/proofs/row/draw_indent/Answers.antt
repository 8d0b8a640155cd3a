use Rattle.snippet_titles.proofs.Common.{◌∙◌, ◌+◌, ◌++◌, ◌∷◌, [], ap, replicate, Cell, SPACE, unlinked_cell, cells_written, appended}
use Rattle.snippet_titles.proofs.RowLemmas.{bar_drawn}
use Rattle.snippet_titles.proofs.row.draw_indent.Goals as goal

pub returns-in_ok-add_spaces-in-Message : goal.returns-in_ok-add_spaces-in-Message
returns-in_ok-add_spaces-in-Message c =
    let gutter = c.in-Message.place.layout.gutter + 1 in
    record {
      extended = rw c.in-Message.is
          (bar_drawn _ _ _ _ gutter (c.args.width + 1) _ c.requires.empty (c.in_ok-putc-in-Message.ensures.ok
          ∙ ap (λ n. cells_written c.args.buffer.now c.args.row n (unlinked_cell c.bar-glyph.result.1 c.bar-glyph.result.0 ∷ []))
          c.separator_cell-cell.ensures.value) c.in_ok-add_spaces-in-Message.ensures.extended
          ∙ ap (λ (cell : Cell). appended c.args.buffer.now c.args.row (replicate gutter SPACE ++ cell ∷ replicate (c.args.width + 1) SPACE))
          c.bar-glyph.ensures.value);
    }
