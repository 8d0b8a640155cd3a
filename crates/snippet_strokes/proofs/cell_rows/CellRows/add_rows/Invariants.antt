-- Rows are made up to this number.
use Rattle.snippet_strokes.proofs.Common.{◌≡◌, ◌+◌, ◌++◌, ◌-◌, ◌≤◌, [], length, map, max, replicate, cells_of}
use Rattle.snippet_strokes.proofs.cell_rows.CellRows.add_rows.Given as goal

abbrev pub invariant-loop : goal.invariant-loop
invariant-loop l =
    record {
      made : map cells_of l.self-inside.rows.items
          ≡ map cells_of l.initial.self-inside.rows.items ++ replicate (l.counter - length l.initial.self-inside.rows.items) [];
      count : length l.self-inside.rows.items ≡ l.counter;
      above : length l.initial.self-inside.rows.items ≤ l.counter;
      below : l.counter ≤ max (l.row + 1) (length l.initial.self-inside.rows.items);
    }
