use Rattle.snippet_suggest.proofs.Common.{◌≡◌, ◌≤◌, ◌++◌, ◌∷◌, [], List, drop, length, take, Cell, AreInOrder}
use Rattle.snippet_suggest.proofs.PartRows.{ArePut}
use Rattle.snippet_suggest.proofs.roles.put_stretches.Given as goal

-- the stretches before this one are put, and those that are left stand after them
abbrev pub invariant-loop-stretch : goal.invariant-loop-stretch
invariant-loop-stretch l = record {
  within : l.at ≤ length l.line;
  ordered : AreInOrder (length l.line) l.at (drop l.stretch-index l.stretches);
  parts : (above : List (List Cell)) (last : List Cell) → l.row ≡ length above → l.initial.buffer ≡ above ++ last ∷ []
      → ArePut l.role l.layout.base.gutter l.line (take l.stretch-index l.stretches) l.at above last l.buffer;
}
