use Rattle.snippet_strokes.proofs.Common.{◌≡◌, ◌∙◌, ◌+◌, ap, arith, length, ℕ, on_ok_weaker, WritesCells-from_equal, column_of, painted}
use Rattle.snippet_strokes.proofs.corners.draw_top.Goals as goal

pub draw_bar-requires-clause-ordered : goal.draw_bar-requires-clause-ordered
draw_bar-requires-clause-ordered g c =
    let old = g.C.Canvas.rows c.args.buffer.now in
    omega (
      arith,
      c.num_lines-end.ensures.count,
      c.requires.rows,
      (WritesCells-from_equal old (g.C.Canvas.rows c.putc.new.self) c.args.bar.corner c.args.bar.cell _ c.in_ok-putc.ensures.ok).count,
    )

pub returns : goal.returns
returns g c =
    let bar = c.args.bar in
    let old = (g.C.Canvas.rows c.args.buffer.now) in
    let below = λ (n : ℕ). painted (column_of (bar.corner + 1) n bar.cell bar.strokes.bar bar.strokes.style) in
    let same : c.num_lines-end.result ≡ length old = omega (
      arith,
      c.num_lines-end.ensures.count,
      (WritesCells-from_equal old
          (g.C.Canvas.rows c.putc.new.self) bar.corner bar.cell _ c.in_ok-putc.ensures.ok).count,
      c.requires.rows,
    ) in
    record {
      painted = on_ok_weaker c.draw_bar.result (λ continues. continues ∙ ap (λ n. below n (g.C.Canvas.rows c.putc.new.self)) same
          ∙ ap (below (length old)) c.in_ok-putc.ensures.ok) c.draw_bar.ensures.painted;
    }
