use Rattle.snippet_grid.proofs.Common.{common_steps, arith}
use Rattle.snippet_grid.proofs.HtmlReads.{adds_both}
use Rattle.snippet_grid.proofs.html.start_look.Goals as goal

pub returns : goal.returns
returns c = grind (arith, common_steps, adds_both, c.in_ok-start_span.ensures.added, c.start_anchor.ensures.added)
