use Rattle.snippet_strokes.proofs.Common.{drop}
use Rattle.snippet_strokes.proofs.PaintOrder.{Widens}
use Rattle.snippet_strokes.proofs.marks.is_order_reversed.Given as goal

-- the entries widen if those from here on do
abbrev pub invariant-loop-entry : goal.invariant-loop-entry
invariant-loop-entry l = Widens l.widest (drop l.entry-index l.placed) → Widens 0 l.placed
