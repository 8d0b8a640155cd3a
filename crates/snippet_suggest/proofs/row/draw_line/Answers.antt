use Rattle.snippet_suggest.proofs.Common.{◌≡◌, ◌<◌, ◌∙◌, arith, ap, length, cells_written, text_cells, NoStyle, norm, length-chars_le}
use Rattle.std.proofs.Common.{chars}
use Rattle.snippet_suggest.proofs.PutLemmas.{line_drawn}
use Rattle.snippet_suggest.proofs.row.draw_line.Goals as goal

pub puts-requires-clause-end : goal.puts-requires-clause-end
puts-requires-clause-end c = omega (arith, c.inner_cell-cell.ensures.few, length-chars_le c.as_str.result.now)

pub returns-clause-cells : goal.returns-clause-cells
returns-clause-cells c =
    let a = c.args in
    let text = c.as_str.result.now in
    let is_text : chars text ≡ norm (chars a.line.now) = ap chars c.as_str.ensures.value ∙ c.in_ok-text.ensures.value in
    let lined = λ (some : 0 < length text). c.in_ok-puts.ensures.ok some
    ∙ ap (λ n. cells_written c.begin_line.new.buffer c.in_ok-row.row n (text_cells NoStyle (chars text))) c.inner_cell-cell.ensures.value in
    line_drawn a.layout.now a.glyph a.number a.line.now text c.in_ok-row.row a.buffer.now c.begin_line.new.buffer c.puts.new.self
    c.in_ok-row.ensures.row.0 c.in_ok-row.ensures.cells is_text c.as_str.utf8 lined c.puts.ensures.empty
