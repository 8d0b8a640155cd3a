use Rattle.snippet_titles.proofs.Common.{common_steps, arith}
use Rattle.snippet_grid.proofs.AppendLemmas.{spaces_added}
use Rattle.snippet_titles.proofs.row.add_spaces.Goals as goal

pub returns-in_ok-putc : goal.returns-in_ok-putc
returns-in_ok-putc c = grind (arith, common_steps, spaces_added, c.requires.end, c.if-count-gt0.true, c.in_ok-putc.ensures.ok)
