use Rattle.snippet_suggest.proofs.Common.{drop, length, AreInOrder}
use Rattle.snippet_suggest.proofs.roles.are_in_order.Given as goal

-- if those that are left are in order from here on, all are
abbrev pub invariant-loop-stretch : goal.invariant-loop-stretch
invariant-loop-stretch l =
    AreInOrder (length l.line) l.at (drop l.stretch-index l.stretches) → AreInOrder (length l.line) 0 l.stretches
