use Rattle.snippet_strokes.proofs.Common.{arith, length-replicate, on_ok_weaker}
use Rattle.snippet_strokes.proofs.LineLemmas.{some_bytes}
use Rattle.snippet_strokes.proofs.WriteLaws.{stretch_of-none, stretch_painted}
use Rattle.snippet_strokes.proofs.Common.{common_steps}
use Rattle.snippet_strokes.proofs.lines.draw_stretch.Goals as goal

pub puts-requires-clause-end : goal.puts-requires-clause-end
puts-requires-clause-end c = grind (arith, common_steps, length-replicate)

pub returns-then-end-start : goal.returns-then-end-start
returns-then-end-start c =
    grind (arith, stretch_of-none, c.args.buffer.now, c.args.row, c.args.cells.start, c.args.cells.end, c.args.glyph, c.args.role, c.if-end-start.true)

pub returns : goal.returns
returns c = grind (arith, common_steps, some_bytes, on_ok_weaker, stretch_painted)
