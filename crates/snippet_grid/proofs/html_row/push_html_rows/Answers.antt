use Rattle.snippet_grid.proofs.Common.{common_steps, ◌∙◌, [], List, ℕ, Cell, arith, string_bytes, subst, sym, take, AddsHtml, AddsHtmlCells, HtmlRow}
use Rattle.snippet_grid.proofs.Common.{IsHtmlBegun, LevelInner, grid_shown, row_at, row_html, rows_html}
use Rattle.snippet_grid.proofs.HtmlRows.{html_begun, html_none, html_rows_more}
use Rattle.snippet_grid.proofs.RowWoven.{begins_first, rows_to-all, rows_to-length, rows_to-more}
use Rattle.snippet_grid.proofs.html_row.push_html_rows.Goals as goal

pub loop-row-init : goal.loop-row-init
loop-row-init c = grind (arith, common_steps, begins_first)

pub loop-row-preserved : goal.loop-row-preserved
loop-row-preserved c =
    let level = c.args.level in
    let r = c.loop-row.row in
    let so_far = c.loop-row.invariant in
    let was : HtmlRow = c.loop-row.line in
    let line : HtmlRow = record { text = c.feed.new.text; level = was.level; last = was.last } in
    let now : List ℕ = string_bytes line.text in
    let begun : IsHtmlBegun level line = record { grouped = so_far.begun.grouped; plain = so_far.begun.plain } in
    let grid = grid_shown c.args.text.now c.args.runs.now c.args.widths.now in
    let row = row_at grid r in
    let long = rows_to-length c.args.text.now c.args.runs.now c.args.widths.now r c.loop-row-test.true in
    let added : AddsHtmlCells line c.write_row.new.sink row = c.in_ok-from.ensures.added line [] (html_none line) in
    let text = string_bytes c.close.new.self.text in
    let closed = c.in_ok-close.ensures.closed row now (added.printed [] now (html_begun level line begun)) in
    let here = subst (λ (l : LevelInner). AddsHtml (row_html l row) now text) (added.level ∙ begun.grouped) closed in
    record {
      begins = c.in_ok-from.ensures.next;
      begun = record {
        grouped = c.in_ok-close.ensures.begun.grouped ∙ added.level ∙ begun.grouped;
        plain = c.in_ok-close.ensures.begun.plain;
      };
      printed = subst (λ (rows : List (List Cell)). AddsHtml (rows_html level rows) (string_bytes c.args.before) text)
          (sym (rows_to-more c.args.text.now c.args.runs.now c.args.widths.now r c.loop-row-test.true))
          (html_rows_more level (string_bytes c.args.before) (string_bytes was.text) now text (take r grid) row
          (λ none. c.in_ok-feed.ensures.first (omega (arith, none, long)))
          (λ some. c.in_ok-feed.ensures.further (omega (arith, some, long))) so_far.printed here);
    }

pub returns : goal.returns
returns c =
    grind (arith, common_steps, c.loop-row.line.text, rows_to-all, c.loop-row.row, c.loop-row-test.false, c.loop-row.auto.row-end, c.loop-row.invariant.printed)
