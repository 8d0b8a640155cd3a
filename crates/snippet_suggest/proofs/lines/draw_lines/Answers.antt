use Rattle.std.proofs.Common.{arith}
use Rattle.snippet_suggest.proofs.lines.draw_lines.Goals as goal

pub returns : goal.returns
returns c = grind (arith, c.args, c.deref.ensures.value, c.in_ok-shown.ensures.value, c.in_ok-draw_shown.ensures.cells)
