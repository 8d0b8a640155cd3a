use Rattle.snippet_suggest.proofs.Common.{◌≡◌, ◌∙◌, ◌+◌, ◌≤◌, arith, ap, length, cells_written, Layout, text_cells, shown_number, common_steps}
use Rattle.snippet_suggest.proofs.Common.{chars-shown_number, suggestion_glyph_of, length-chars_le}
use Rattle.std.proofs.Common.{chars}
use Rattle.snippet_suggest.proofs.PutLemmas.{begun_in_order, begun_over}
use Rattle.snippet_suggest.proofs.row.begin_line.Goals as goal

pub puts-requires-clause-end : goal.puts-requires-clause-end
puts-requires-clause-end c = omega (arith, length-chars_le c.as_str.result.now)

pub puts-requires-3-clause-end : goal.puts-requires-3-clause-end
puts-requires-3-clause-end c = omega (arith, length-chars_le c.as_str-2.result.now)

pub returns-then-len-separator_cell-clause-cells : goal.returns-then-len-separator_cell-clause-cells
returns-then-len-separator_cell-clause-cells c =
    let a = c.args in
    let digits = c.as_str.result.now in
    let is_number : chars digits ≡ shown_number a.layout.now.numbers a.layout.now.base.gutter a.number = grind (arith, common_steps, chars-shown_number) in
    let is_sign = c.text-sign.ensures.value ∙ ap (λ (l : Layout). suggestion_glyph_of l.decor a.glyph) c.base.view_is in
    let few : length digits ≤ a.layout.now.base.gutter + 1 =
    omega (arith, c.len.ensures, ap length c.as_str.ensures.value, c.separator_cell.ensures.value, c.if-len-separator_cell.true) in
    let signed = c.in_ok-puts-2.ensures.ok c.text-sign.ensures.some ∙ ap (λ n.
    cells_written c.puts.new.self c.num_lines-row.result n (text_cells c.role.result (chars c.text-sign.result.now)))
    c.separator_cell-then-len-separator_cell.ensures.value in
    begun_in_order a.layout.now a.glyph a.number c.role.result c.text-sign.result.now digits c.num_lines-row.result a.buffer.now c.puts.new.self
    c.puts-then-len-separator_cell.new.self c.num_lines-row.ensures.count c.role.ensures.value is_sign is_number c.as_str.utf8 few
    c.in_ok-puts.ensures.ok c.puts.ensures.empty signed

pub returns-clause-cells : goal.returns-clause-cells
returns-clause-cells c =
    let a = c.args in
    let digits = c.as_str-2.result.now in
    let is_number : chars digits ≡ shown_number a.layout.now.numbers a.layout.now.base.gutter a.number = grind (arith, common_steps, chars-shown_number) in
    let is_sign = c.text-sign.ensures.value ∙ ap (λ (l : Layout). suggestion_glyph_of l.decor a.glyph) c.base.view_is in
    let signed = c.in_ok-puts-3.ensures.ok c.text-sign.ensures.some ∙ ap (λ n.
    cells_written a.buffer.now c.num_lines-row.result n (text_cells c.role-2.result (chars c.text-sign.result.now))) c.separator_cell-2.ensures.value in
    begun_over a.layout.now a.glyph a.number c.role-2.result c.text-sign.result.now digits c.num_lines-row.result a.buffer.now c.puts-2.new.self
    c.puts-3.new.self c.num_lines-row.ensures.count c.role-2.ensures.value is_sign is_number c.as_str-2.utf8 signed c.in_ok-puts-4.ensures.ok
    c.puts-3.ensures.empty
