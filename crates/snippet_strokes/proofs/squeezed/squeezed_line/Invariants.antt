use Rattle.snippet_strokes.proofs.Common.{◌≡◌, ◌+◌, ◌++◌, ◌∷◌, [], List, Cell, AreDrawable, fold, length, map, range_with_len, shifted}
use Rattle.snippet_strokes.specs.Squeezed.{middles_replaced, without_middle}
use Rattle.snippet_strokes.proofs.squeezed.squeezed_line.Given as goal

-- the middles of the entries so far are cut out, as far as they give way
abbrev pub invariant-loop-k : goal.invariant-loop-k
invariant-loop-k l = record {
  drawable : AreDrawable l.layout l.line.items;
  count : length l.line.items ≡ length l.entries;
  last : length l.buffer ≡ l.row + 1;
  value : l.line.items ≡ (fold (without_middle l.layout l.room) (map (shifted l.dropped) l.entries, []) (range_with_len 0 l.k)).0;
  row : (above : List (List Cell)) (source : List Cell) → l.initial.buffer ≡ above ++ source ∷ []
      → l.buffer ≡ above ++ middles_replaced l.layout l.room
      (fold (without_middle l.layout l.room) (map (shifted l.dropped) l.entries, []) (range_with_len 0 l.k)).1 source ∷ [];
}
