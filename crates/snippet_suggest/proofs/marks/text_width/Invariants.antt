use Rattle.snippet_suggest.proofs.Common.{◌≡◌, width_of, capped}
use Rattle.snippet_suggest.proofs.marks.text_width.Given as goal

-- the columns of the characters so far
abbrev pub invariant-loop-c : goal.invariant-loop-c
invariant-loop-c l = l.width ≡ capped (width_of l.yielded)
