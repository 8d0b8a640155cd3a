-- The line that is looked for is that of the lines left, from here on.
use Rattle.snippet_lines.proofs.Common.{◌≡◌, ◌∷◌, drop, slice_get, IsCharBoundary, start_bytes, starts_after}
use Rattle.snippet_lines.proofs.columns.line_start.Given as goal

abbrev pub invariant-loop-at : goal.invariant-loop-at
invariant-loop-at l =
    record {
      found : slice_get (l.start ∷ starts_after l.at (drop l.at l.source)) l.left ≡ slice_get (start_bytes l.source) l.index;
      border : IsCharBoundary l.source l.start;
    }
