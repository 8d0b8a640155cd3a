-- The rows so far are printed, and no cell of the next one.
use Rattle.snippet_grid.proofs.Common.{take, string_bytes, AddsHtml, BeginsRow, IsHtmlBegun, grid_shown, rows_html}
use Rattle.snippet_grid.proofs.html_row.push_html_rows.Given as goal

abbrev pub invariant-loop-row : goal.invariant-loop-row
invariant-loop-row l =
    record {
      begins : BeginsRow l.runs l.from l.row;
      begun : IsHtmlBegun l.fn.level l.line;
      printed : AddsHtml (rows_html l.fn.level (take l.row (grid_shown l.text l.runs l.widths))) (string_bytes l.fn.before) (string_bytes l.line.text);
    }
