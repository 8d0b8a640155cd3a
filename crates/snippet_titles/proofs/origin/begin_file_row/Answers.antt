use Rattle.snippet_titles.proofs.Common.{◌∙◌, ap, cells_written, Layout, text_cells, LineNumber, file_glyph}
use Rattle.std.proofs.Common.{chars}
use Rattle.snippet_titles.proofs.FileRowLemmas.{file_row-begun}
use Rattle.snippet_titles.proofs.origin.begin_file_row.Goals as goal

pub returns-clause-added : goal.returns-clause-added
returns-clause-added c =
    file_row-begun c.args.buffer.now c.puts.new.self c.num_lines-row.result c.glyph-glyph.result.now c.args.layout c.args.start c.num_lines-row.ensures.count
    (c.glyph-glyph.ensures.value ∙ ap (λ (l : Layout). file_glyph c.args.start l.decor) c.base.view_is)
    (λ some. c.in_ok-puts.ensures.ok some ∙ ap (λ (l : Layout). cells_written c.args.buffer.now c.num_lines-row.result l.gutter
    (text_cells LineNumber (chars c.glyph-glyph.result.now))) c.base.view_is)
