use Rattle.std.proofs.lemmas.Grind.{common_steps}
use Rattle.snippet_suggest.proofs.Common.{ℕ, [], arith, sym, append-nil, line_stretches}
use Rattle.snippet_suggest.proofs.RowsDrawn.{taken_next, taken_none}
use Rattle.snippet_suggest.proofs.diff.draw_diff_removed.Goals as goal

pub loop-i-init : goal.loop-i-init
loop-i-init c =
    record {
      cells = taken_none c.args.layout.now c.args.first (line_stretches c.args.replaced.now) c.args.removed.now c.args.buffer.now;
    }

pub loop-i-preserved : goal.loop-i-preserved
loop-i-preserved c =
    let a = c.args in
    let old = c.loop-i.buffer in
    let number : ℕ = c.saturating_add-number.result in
    let drawn = c.in_ok-draw_removed_line.ensures.cells old [] c.num_lines-row.ensures.count (sym (append-nil old)) (omega arith) in
    record {
      cells = taken_next a.layout.now a.first (line_stretches a.replaced.now)
          a.removed.now c.loop-i.i number _ c.diff_stretches-stretches.result.now a.buffer.now old c.paint_stretches.new.buffer (omega arith)
          c.saturating_add-number.ensures c.diff_stretches-stretches.ensures.value c.loop-i.invariant.cells
          (c.in_ok-paint_stretches.ensures.cells old _ c.num_lines-row.ensures.count drawn);
    }

pub returns : goal.returns
returns c = grind (arith, common_steps, c.args, c.loop-i.invariant.cells, c.loop-i.i)
