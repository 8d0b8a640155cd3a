use Rattle.snippet_suggest.proofs.Common.{◌≡◌, ◌++◌, ◌∷◌, [], List, length, take, Cell, with_stretches, IsCursor}
use Rattle.std.proofs.Common.{chars}
use Rattle.snippet_suggest.proofs.roles.paint_stretches.Given as goal

-- the row is painted so far, with the stretches before this one, and the walk goes on in the line
abbrev pub invariant-loop-stretch : goal.invariant-loop-stretch
invariant-loop-stretch l = record {
  at : IsCursor l.tabs;
  line : l.tabs.line.now ≡ l.line;
  cells : (above : List (List Cell)) (last : List Cell) → l.row ≡ length above → l.initial.buffer ≡ above ++ last ∷ []
      → l.buffer ≡ above ++ with_stretches l.role l.layout.base.gutter (chars l.line) (take l.stretch-index l.stretches) last ∷ [];
}
