use Rattle.snippet_suggest.proofs.Common.{◌≡◌, ◌++◌, ◌∷◌, [], List, drop, length, map, take, Cell, trimmed_edit_of, edit_columns, with_marks, AreMoves}
use Rattle.snippet_suggest.proofs.MarksDrawn.{Marked}
use Rattle.snippet_suggest.proofs.marks.draw_marks.Given as goal

-- the row shows no line so far; the patches before this one are kept, and their marks are there
abbrev pub invariant-loop-patch : goal.invariant-loop-patch
invariant-loop-patch l = record {
  of : AreMoves (map (λ p. edit_columns l.map (trimmed_edit_of p)) (take l.patch-index l.patches)) l.moves;
  cells : (above : List (List Cell)) (last : List Cell) → l.row ≡ length above → l.initial.buffer ≡ above ++ last ∷ []
      → Marked l.layout l.map (map (λ p. edit_columns l.map (trimmed_edit_of p)) (take l.patch-index l.patches))
      (map trimmed_edit_of (drop l.patch-index l.patches)) (with_marks l.layout l.map [] (map trimmed_edit_of l.patches) last) above l.buffer;
}
