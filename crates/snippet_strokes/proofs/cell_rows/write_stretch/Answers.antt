use Rattle.snippet_strokes.proofs.Common.{◌≡◌, ◌∙◌, ◌-◌, ◌++◌, ◌≤◌, ap, arith, drop, inl, length, map, replicate, sym, take}
use Rattle.snippet_strokes.proofs.Common.{append-nil, take_all, cell_of}
use Rattle.snippet_strokes.proofs.CellRowLemmas.{painted_over, stretch_over}
use Rattle.snippet_strokes.proofs.Common.{common_steps}
use Rattle.snippet_strokes.proofs.cell_rows.write_stretch.Goals as goal

pub returns-in_ok-resize : goal.returns-in_ok-resize
returns-in_ok-resize c = grind (arith, common_steps, painted_over, take_all, stretch_over)

pub returns-else-there-end : goal.returns-else-there-end
returns-else-there-end c =
    let start = c.args.range.start in
    let end = c.args.range.end in
    let there = c.min-there.result in
    let mid = c.fill_up.new.cells.items in
    let all : there ≡ end = grind (arith, c.min-there.ensures, c.if-there-end.false) in
    let within : there ≤ length mid = grind (arith, c.min-there.ensures, c.len.ensures, c.fill_up.new.cells.ok.0) in
    let from : start ≤ there = omega (arith, all, c.requires.some) in
    let none : end - length mid ≡ 0 = omega (arith, all, within) in
    record {
      written = ap (map cell_of) (c.paint_over.ensures.painted
          ∙ sym (append-nil (take start mid ++ replicate (there - start) c.args.new ++ drop there mid))
          ∙ ap (λ n. (take start mid ++ replicate (there - start) c.args.new ++ drop there mid) ++ replicate n c.args.new) (sym none))
          ∙ stretch_over c.args.cells.now.items mid start there end c.args.new c.in_ok-fill_up.ensures.filled from
          (omega (arith, all)) within (inl all);
    }
