use Rattle.snippet_suggest.proofs.Common.{on_ok_weaker, common_steps, arith}
use Rattle.snippet_suggest.proofs.PutLemmas.{line_is, shown_is}
use Rattle.snippet_suggest.proofs.lines.draw_text_line.Goals as goal

pub returns : goal.returns
returns c = grind (arith, common_steps, shown_is)

pub returns-then-are_in_order : goal.returns-then-are_in_order
returns-then-are_in_order c = grind (arith, common_steps, on_ok_weaker, line_is, shown_is)
