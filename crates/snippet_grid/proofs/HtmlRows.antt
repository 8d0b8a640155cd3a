-- A row of HTML that grows by spaces and by words, and rows one below another.
use Rattle.snippet_grid.proofs.Common.{common_steps, ◌≡◌, ℕ, ◌<◌, List, [], ◌∷◌, ◌++◌, length, refl, sym, ap, ◌∙◌, subst, arith, append_assoc, append-nil}
use Rattle.snippet_grid.proofs.Common.{encode_utf8, string_bytes, AddsHtml, AddsHtmlCells, Cell, HtmlRow, IsHtml, IsHtmlBegun, LevelInner, cells_html}
use Rattle.snippet_grid.proofs.Common.{html_bytes, row_html, rows_html}
use Rattle.snippet_grid.proofs.HtmlReads.{adds_both, adds_line_feed, rows_html-more}

-- no cell is printed of a row that begins
pub html_begun : (level : LevelInner) (row : HtmlRow) → IsHtmlBegun level row → IsHtml [] (string_bytes row.text) row
html_begun level row begun =
    record { goes = λ more. ap (λ look. string_bytes row.text ++ html_bytes (cells_html row.level look more)) (sym begun.plain) }

-- no cells were added
pub html_none : (row : HtmlRow) → AddsHtmlCells row row []
html_none row =
    record { level = refl; printed = λ cells old printed. subst (λ (done : List Cell). IsHtml done old row) (sym (append-nil cells)) printed }

-- cells were added, and then others
pub html_more : (start before after : HtmlRow) (some more : List Cell) → AddsHtmlCells before after more → AddsHtmlCells start before some
    → AddsHtmlCells start after (some ++ more)
html_more start before after some more second first =
    record {
      level = second.level ∙ first.level;
      printed = λ cells old printed. subst (λ (done : List Cell). IsHtml done old after) (append_assoc cells some more)
          (second.printed (cells ++ some) old (first.printed cells old printed));
    }

-- a row that stands below others, if there are any
pub html_rows_more : (level : LevelInner) (old now fed new : List ℕ) (rows : List (List Cell)) (row : List Cell) → (length rows ≡ 0 → fed ≡ now)
    → (0 < length rows → fed ≡ now ++ encode_utf8 10) → AddsHtml (rows_html level rows) old now → AddsHtml (row_html level row) fed new
    → AddsHtml (rows_html level (rows ++ row ∷ [])) old new
html_rows_more level old now fed new [] row first broken above added = grind (arith, common_steps)
html_rows_more level old now fed new (head ∷ rows) row first broken above added = grind (arith, common_steps, adds_line_feed, adds_both, rows_html-more)
