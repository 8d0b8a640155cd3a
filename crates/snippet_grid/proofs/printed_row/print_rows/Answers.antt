use Rattle.snippet_grid.proofs.Common.{common_steps, ◌∙◌, [], List, ℕ, Cell, arith, string_bytes, subst, sym, take, AddsCells, IsBegun, LevelInner, PrintedRow}
use Rattle.snippet_grid.proofs.Common.{Stylesheet, WeavesRow, WeavesRows, grid_shown, row_at}
use Rattle.snippet_grid.proofs.OpenRowLemmas.{adds_none, none_printed}
use Rattle.snippet_grid.proofs.RowWoven.{begins_first, rows_more, rows_to-all, rows_to-length, rows_to-more}
use Rattle.snippet_grid.proofs.printed_row.print_rows.Goals as goal

pub loop-row-init : goal.loop-row-init
loop-row-init c = grind (arith, common_steps, begins_first)

pub loop-row-preserved : goal.loop-row-preserved
loop-row-preserved c =
    let sheet = c.args.codes.now in
    let level = c.args.level in
    let r = c.loop-row.row in
    let so_far = c.loop-row.invariant in
    let was : PrintedRow = c.loop-row.line in
    let line : PrintedRow = record { text = c.feed.new.text; codes = was.codes; level = was.level; last = was.last } in
    let now : List ℕ = string_bytes line.text in
    let begun : IsBegun sheet level line = record {
      under = so_far.begun.under;
      grouped = so_far.begun.grouped;
      plain = so_far.begun.plain;
      unlinked = so_far.begun.unlinked;
    } in
    let grid = grid_shown c.args.text.now c.args.runs.now c.args.widths.now in
    let row = row_at grid r in
    let long = rows_to-length c.args.text.now c.args.runs.now c.args.widths.now r c.loop-row-test.true in
    let added : AddsCells line c.write_row.new.sink row = c.in_ok-from.ensures.added line [] (adds_none line) in
    let text = string_bytes c.close.new.self.text in
    let woven = c.in_ok-close.ensures.closed row now (added.printed [] now (none_printed sheet level line begun)) in
    let under = subst (λ (s : Stylesheet). WeavesRow s c.write_row.new.sink.level row now text) (added.sheet ∙ begun.under) woven in
    let here = subst (λ (l : LevelInner). WeavesRow sheet l row now text) (added.level ∙ begun.grouped) under in
    record {
      begins = c.in_ok-from.ensures.next;
      begun = record {
        under = c.in_ok-close.ensures.begun.under ∙ added.sheet ∙ begun.under;
        grouped = c.in_ok-close.ensures.begun.grouped ∙ added.level ∙ begun.grouped;
        plain = c.in_ok-close.ensures.begun.plain;
        unlinked = c.in_ok-close.ensures.begun.unlinked;
      };
      printed = subst (λ (rows : List (List Cell)). WeavesRows sheet level rows (string_bytes c.args.before) text)
          (sym (rows_to-more c.args.text.now c.args.runs.now c.args.widths.now r c.loop-row-test.true))
          (rows_more sheet level (string_bytes c.args.before) (string_bytes was.text) now text (take r grid) row
          (λ none. c.in_ok-feed.ensures.first (omega (arith, none, long)))
          (λ some. c.in_ok-feed.ensures.further (omega (arith, some, long))) so_far.printed here);
    }

pub returns : goal.returns
returns c =
    grind (arith, common_steps, c.loop-row.line.text, rows_to-all, c.loop-row.row, c.loop-row-test.false, c.loop-row.auto.row-end, c.loop-row.invariant.printed)
