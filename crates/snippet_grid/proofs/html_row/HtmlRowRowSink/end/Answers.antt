use Rattle.snippet_grid.proofs.Common.{[], List, append-nil, string_bytes, subst, sym, AddsHtml, HtmlPiece, LevelInner, row_html}
use Rattle.snippet_grid.proofs.html_row.HtmlRowRowSink.end.Goals as goal

pub returns : goal.returns
returns c =
    record {
      gained = λ start cells adds some old begun.
          let text = string_bytes c.close.new.self.text in
          let printed = c.in_ok-close.ensures.closed cells old (adds.printed [] old begun) in
          subst (λ (pieces : List HtmlPiece). AddsHtml pieces old text) (sym (append-nil (row_html start.level cells)))
          (subst (λ (l : LevelInner). AddsHtml (row_html l cells) old text) adds.level printed);
    }
