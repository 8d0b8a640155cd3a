use Rattle.std.proofs.Common.{◌<◌, ◌+◌, length, chars}
use Rattle.snippet_window.proofs.LineWindowLemmas.{ReachesSoFar}
use Rattle.snippet_window.proofs.window.walked_reaching.Given as goal

abbrev pub invariant-loop-c : goal.invariant-loop-c
invariant-loop-c l = ReachesSoFar l.columns (chars l.text) (length l.yielded) l.at l.width × (l.width < l.columns + 4)
