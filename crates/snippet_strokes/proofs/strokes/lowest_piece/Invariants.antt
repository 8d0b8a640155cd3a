-- The rows so far are those that an entry so far needs at most.
use Rattle.snippet_strokes.proofs.Common.{◌≡◌, greatest, map, rows_below, take}
use Rattle.snippet_style.specs.Bounds.{IsCount}
use Rattle.snippet_strokes.proofs.strokes.lowest_piece.Given as goal

abbrev pub invariant-loop-entry : goal.invariant-loop-entry
invariant-loop-entry l = record {
  rows : l.below ≡ greatest (map (rows_below l.starts) (take l.entry-index l.placed));
  few : IsCount l.below;
}
