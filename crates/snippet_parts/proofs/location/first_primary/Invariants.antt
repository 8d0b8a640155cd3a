use Rattle.snippet_parts.proofs.Common.{◌≡◌, take, least, primary_starts}
use Rattle.snippet_parts.proofs.location.first_primary.Given as goal

-- the least byte of the primary spans so far
abbrev pub invariant-loop-annotation : goal.invariant-loop-annotation
invariant-loop-annotation l = l.least ≡ least (primary_starts (take l.annotation-index l.annotations))
