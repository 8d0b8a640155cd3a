use Rattle.std.proofs.Common.{arith}
use Rattle.annotate_snippets.proofs.HtmlShown.{html_after}
use Rattle.annotate_snippets.proofs.renderer.html.page_html.Goals as goal

pub returns-clause-html : goal.returns-clause-html
returns-clause-html c =
    grind (arith, html_after, c.args.renderer.now, c.args.groups.now, c.draw_page.new.sink, c.new.ensures.bytes, c.in_ok-draw_page.ensures.took)
