-- The rows so far are added.
use Rattle.snippet_strokes.proofs.Common.{◌≡◌, ◌++◌, ◌<◌, ◌≤◌, ◌^◌, length, map, take, cells_of}
use Rattle.snippet_strokes.proofs.cell_rows.append_rows.Given as goal

abbrev pub invariant-loop-row : goal.invariant-loop-row
invariant-loop-row l =
    record {
      so_far : l.buffer ≡ l.fn.buffer ++ map cells_of (take l.row-index l.rows);
      small : 0 < l.row-index → length l.buffer ≤ 2 ^ 60;
    }
