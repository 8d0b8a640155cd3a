use Rattle.std.proofs.Common.{length, chars}
use Rattle.snippet_grid.proofs.CutLemmas.{CutSoFar}
use Rattle.snippet_grid.proofs.runs.byte_at.Given as goal

abbrev pub invariant-loop-ch : goal.invariant-loop-ch
invariant-loop-ch l = CutSoFar l.count (chars l.text) (length l.yielded) l.at l.left
