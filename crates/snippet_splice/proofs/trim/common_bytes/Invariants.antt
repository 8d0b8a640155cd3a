use Rattle.snippet_splice.proofs.Common.{◌≡◌, take}
use Rattle.snippet_splice.proofs.trim.common_bytes.Given as goal

-- so far the bytes are the same
abbrev pub invariant-loop-i : goal.invariant-loop-i
invariant-loop-i l = take l.i l.first ≡ take l.i l.second
