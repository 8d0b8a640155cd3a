use Rattle.snippet_parts.proofs.Common.{◌≡◌, take, least, marked_starts}
use Rattle.snippet_parts.proofs.location.first_marked.Given as goal

-- the least byte of the marked spans so far
abbrev pub invariant-loop-annotation : goal.invariant-loop-annotation
invariant-loop-annotation l = l.least ≡ least (marked_starts (take l.annotation-index l.annotations))
