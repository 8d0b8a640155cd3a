use Rattle.snippet_grid.proofs.Common.{List, AddsHtmlCells, Cell, on_ok_weaker, subst}
use Rattle.std.specs.Str.{chars}
use Rattle.snippet_grid.proofs.HtmlRows.{html_more}
use Rattle.snippet_grid.proofs.OpenRowLemmas.{linked_alike}
use Rattle.snippet_grid.proofs.html_row.HtmlRowRowSink.add_link.Goals as goal

pub returns : goal.returns
returns c = record {
  added = on_ok_weaker c.add_stretch.result (λ added start cells adds. html_more start _ _ cells _ (subst (λ (more : List Cell).
      AddsHtmlCells c.args.self.now c.add_stretch.new.self more) (linked_alike c.args.role c.args.url.now (chars c.args.word.now)) added) adds)
      c.add_stretch.ensures.added;
}
