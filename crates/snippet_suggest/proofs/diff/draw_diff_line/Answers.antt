use Rattle.std.proofs.Common.{arith}
use Rattle.snippet_suggest.proofs.Common.{on_ok_weaker, common_steps}
use Rattle.snippet_suggest.proofs.PutLemmas.{diff_offered}
use Rattle.snippet_suggest.proofs.diff.draw_diff_line.Goals as goal
use Rattle.snippet_suggest.proofs.diff.draw_diff_line.Goals.{then-not-left_out+in_ok-draw_line, else-not-left_out}

pub returns-clause-left_cells : goal.returns-clause-left_cells
returns-clause-left_cells c = grind (arith, then-not-left_out+in_ok-draw_line, else-not-left_out, c.if-not-left_out.branch, c.paint_last.ensures.cells)

pub returns-clause-cells : goal.returns-clause-cells
returns-clause-cells c = grind (arith, common_steps, on_ok_weaker, diff_offered)
