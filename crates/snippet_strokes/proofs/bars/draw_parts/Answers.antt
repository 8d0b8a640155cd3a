use Rattle.snippet_strokes.proofs.Common.{◌≡◌, ◌∙◌, ◌+◌, ◌<◌, ℕ, ap, arith, length, replicate, length-replicate, cells_written}
use Rattle.snippet_strokes.proofs.Common.{bar_glyph, bar_cell_part, text_cells, unlinked_cell, Strokes}
use Rattle.std.specs.Str.{chars}
use Rattle.snippet_strokes.proofs.BarRows.{ChangesRows-next, ChangesRows-none, changed-is}
use Rattle.snippet_strokes.proofs.LineLemmas.{text_cells-replicate, some_bytes}
use Rattle.snippet_strokes.proofs.Common.{common_steps}
use Rattle.snippet_strokes.proofs.bars.draw_parts.Goals as goal

pub puts-requires-clause-end : goal.puts-requires-clause-end
puts-requires-clause-end c = grind (arith, common_steps, length-replicate)

pub loop-r-preserved : goal.loop-r-preserved
loop-r-preserved c =
    let layout = c.args.layout in
    let glyph : ℕ = bar_glyph c.args.side.stroke layout.decor c.args.side.first.primary in
    let n = c.args.side.count in
    let role = c.underline-role.result.style in
    let text = c.args.part.now in
    let is : chars text ≡ replicate n glyph = c.requires.part in
    let at = layout.gutter + 2 + c.args.side.first.depth in
    let written_is : c.puts.new.self ≡ cells_written c.loop-r.buffer c.loop-r.r at (text_cells role (chars text)) =
    c.in_ok-puts.ensures.ok (some_bytes text n glyph is c.requires.side.some)
    ∙ ap (λ n. cells_written c.loop-r.buffer c.loop-r.r n (text_cells role (chars text))) c.bar_cell-cell.ensures.value in
    let part : unlinked_cell role glyph ≡ bar_cell_part layout c.args.side.stroke c.args.side.first = ap (λ r. unlinked_cell r glyph)
    (ap (λ (s : Strokes). s.style) c.underline-role.ensures.value) in
    let parts : text_cells role (chars text) ≡ replicate n (bar_cell_part layout c.args.side.stroke c.args.side.first) = ap (text_cells role) is
    ∙ text_cells-replicate role n glyph ∙ ap (replicate n) part in
    let there : c.loop-r.r < length c.args.buffer.now = omega (arith, c.loop-r.invariant.count, c.num_lines-r-end.ensures.count, c.loop-r-test.true) in
    ChangesRows-next at (replicate n (bar_cell_part layout c.args.side.stroke c.args.side.first))
    c.args.row c.loop-r.r c.args.buffer.now c.loop-r.buffer c.puts.new.self
    (omega arith) there c.loop-r.invariant (written_is ∙ ap (cells_written c.loop-r.buffer c.loop-r.r at) parts)

pub loop-r-init : goal.loop-r-init
loop-r-init c = ChangesRows-none _ c.args.row c.args.row c.args.buffer.now (omega arith)

pub returns : goal.returns
returns c =
    record {
      value = changed-is _ c.args.row c.loop-r.r c.args.buffer.now c.loop-r.buffer
          (omega (arith, c.num_lines-r-end.ensures.count, c.loop-r-test.false)) c.loop-r.invariant;
    }
