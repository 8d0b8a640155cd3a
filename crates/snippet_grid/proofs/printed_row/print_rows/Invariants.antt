-- The rows so far are printed, and no cell of the next one.
use Rattle.snippet_grid.proofs.Common.{take, string_bytes, BeginsRow, IsBegun, WeavesRows, grid_shown}
use Rattle.snippet_grid.proofs.printed_row.print_rows.Given as goal

abbrev pub invariant-loop-row : goal.invariant-loop-row
invariant-loop-row l =
    record {
      begins : BeginsRow l.runs l.from l.row;
      begun : IsBegun l.codes l.fn.level l.line;
      printed : WeavesRows l.codes l.fn.level (take l.row (grid_shown l.text l.runs l.widths)) (string_bytes l.fn.before) (string_bytes l.line.text);
    }
