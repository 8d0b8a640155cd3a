-- The blanks so far are added.
use Rattle.snippet_strokes.proofs.Common.{◌≡◌, ◌≤◌, ◌-◌, ◌++◌, length, map, replicate, cell_of, SPACE}
use Rattle.snippet_strokes.proofs.cell_rows.add_blanks.Given as goal

abbrev pub invariant-loop-left : goal.invariant-loop-left
invariant-loop-left l =
    record {
      low : l.left ≤ l.at - length l.fn.cells.items;
      so_far : map cell_of l.cells.items
          ≡ map cell_of l.fn.cells.items ++ replicate (l.at - length l.fn.cells.items - l.left) SPACE;
    }

abbrev pub decreases-loop-left : goal.decreases-loop-left
decreases-loop-left l = l.left
