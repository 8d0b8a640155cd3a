use Rattle.snippet_suggest.proofs.Common.{◌≡◌, ◌<◌, ◌∙◌, arith, ap, length, cells_written, text_cells, Removal, norm, shown_number, common_steps}
use Rattle.snippet_suggest.proofs.Common.{chars-shown_number, removed_sign_of, length-chars_le}
use Rattle.std.proofs.Common.{chars}
use Rattle.snippet_suggest.proofs.GlyphLemmas.{removed_sign_short}
use Rattle.snippet_suggest.proofs.PutLemmas.{removed_drawn}
use Rattle.snippet_suggest.proofs.row.draw_removed_line.Goals as goal

pub puts-requires-clause-end : goal.puts-requires-clause-end
puts-requires-clause-end c = omega (arith, length-chars_le c.as_str.result.now)

pub puts-requires-2-clause-end : goal.puts-requires-2-clause-end
puts-requires-2-clause-end c = omega (arith, c.separator_cell.ensures.few, removed_sign_short c.base-2.inside.decor, ap length c.removed_sign.ensures.value)

pub puts-requires-3-clause-end : goal.puts-requires-3-clause-end
puts-requires-3-clause-end c = omega (arith, c.inner_cell.ensures.few, length-chars_le c.as_str-2.result.now)

pub returns : goal.returns
returns c =
    let a = c.args in
    let g = a.layout.now.base.gutter in
    let number = c.as_str.result.now in
    let text = c.as_str-2.result.now in
    let is_number : chars number ≡ shown_number a.layout.now.numbers g a.line.number = grind (arith, common_steps, chars-shown_number) in
    let is_text : chars text ≡ norm (chars a.line.text.now) = ap chars c.as_str-2.ensures.value ∙ c.in_ok-text.ensures.value in
    let sign = c.removed_sign.result.now in
    let is_sign : chars sign ≡ removed_sign_of a.layout.now.base.decor = cc (c.removed_sign.ensures.value, c.base-2.view_is) in
    let signed = c.in_ok-puts-2.ensures.ok c.removed_sign.ensures.some
    ∙ ap (λ n. cells_written c.puts.new.self a.row n (text_cells Removal (chars sign))) c.separator_cell.ensures.value in
    let lined = λ (some : 0 < length c.as_str-2.result.now). c.in_ok-puts-3.ensures.ok some
    ∙ ap (λ n. cells_written c.puts-2.new.self a.row n (text_cells a.role (chars text))) c.inner_cell.ensures.value in
    record {
      cells = λ above tail here is few. removed_drawn a.layout.now a.role a.line.number a.line.text.now sign number text a.row above tail a.buffer.now
          c.puts.new.self c.puts-2.new.self c.puts-3.new.self here is few is_sign is_number is_text
          c.as_str.utf8 c.as_str-2.utf8 c.in_ok-puts.ensures.ok c.puts.ensures.empty signed lined c.puts-3.ensures.empty;
    }
