use Rattle.std.proofs.Common.{arith}
use Rattle.snippet_strokes.proofs.snippet.draw_line_rows.Goals as goal

pub draw_whole_line-requires-clause-whole : goal.draw_whole_line-requires-clause-whole
draw_whole_line-requires-clause-whole c =
    grind (arith, c.args.line.now.info.line.now, c.deref.ensures.value, c.is_whole_line.ensures.value, c.if-is_whole_line.true)

pub draw_marked_line-requires-clause-other : goal.draw_marked_line-requires-clause-other
draw_marked_line-requires-clause-other c =
    grind (arith, c.args.line.now.info.line.now, c.deref.ensures.value, c.is_whole_line.ensures.value, c.if-is_whole_line.false)
