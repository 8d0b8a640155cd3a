-- The characters so far are written.
use Rattle.snippet_strokes.proofs.Common.{◌≡◌, ◌+◌, length, map, cell_of, SPACE, text_cells, written}
use Rattle.snippet_strokes.proofs.cell_rows.write_text.Given as goal

abbrev pub invariant-loop-ch : goal.invariant-loop-ch
invariant-loop-ch l =
    record {
      next : l.next ≡ l.fn.at + length l.yielded;
      so_far : map cell_of l.cells.items ≡ written SPACE (map cell_of l.fn.cells.items) l.fn.at (text_cells l.fn.role l.yielded);
    }
