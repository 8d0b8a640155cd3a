use Rattle.std.proofs.Common.{length, chars}
use Rattle.snippet_window.proofs.LineWindowLemmas.{FitsSoFar}
use Rattle.snippet_window.proofs.window.walked_end.Given as goal

abbrev pub invariant-loop-c : goal.invariant-loop-c
invariant-loop-c l = FitsSoFar l.columns (chars l.text) (length l.yielded) l.at l.left
