use Rattle.snippet_grid.proofs.Common.{look_seen}
use Rattle.snippet_grid.proofs.HtmlReads.{html_closed}
use Rattle.snippet_grid.proofs.html_row.HtmlRow.close.Goals as goal

pub returns-clause-closed : goal.returns-clause-closed
returns-clause-closed c =
    λ cells old printed. html_closed c.args.self.now.level (look_seen c.args.self.now.last) cells old _ _ c.in_ok-end_look.ensures.added printed.goes
