use Rattle.snippet_suggest.proofs.Common.{◌≡◌, take, left_of, shift_of}
use Rattle.snippet_suggest.proofs.marks.Moves.before.Given as goal

-- what those so far that end there or left of it move
abbrev pub invariant-loop-columns : goal.invariant-loop-columns
invariant-loop-columns l = l.shift ≡ shift_of (left_of l.start (take l.columns-index l.self.patches.items))
