use Rattle.snippet_titles.proofs.Common.{common_steps, arith}
use Rattle.snippet_titles.proofs.RowLemmas.{appended-two}
use Rattle.snippet_titles.proofs.heading.draw_further_line.Goals as goal

pub returns : goal.returns
returns c = grind (arith, common_steps, appended-two, c.in_ok-draw_indent.ensures.extended, c.in_ok-extend_row.ensures.extended)
