use Rattle.snippet_parts.proofs.Common.{◌≡◌, max, fold, take}
use Rattle.snippet_parts.proofs.depths.greatest.Given as goal

-- the greatest so far
abbrev pub invariant-loop-depth : goal.invariant-loop-depth
invariant-loop-depth l = l.greatest ≡ fold max 0 (take l.depth-index l.depths)
