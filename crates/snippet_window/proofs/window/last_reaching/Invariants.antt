use Rattle.std.proofs.Common.{length, chars}
use Rattle.snippet_window.proofs.LineWindowLemmas.{LastSoFar}
use Rattle.snippet_window.proofs.window.last_reaching.Given as goal

abbrev pub invariant-loop-c : goal.invariant-loop-c
invariant-loop-c l = LastSoFar l.columns (chars l.text) (length l.yielded) l.width l.count
