use Rattle.snippet_parts.proofs.Common.{◌≡◌, ◌≤◌, take, drop, length}
use Rattle.snippet_parts.proofs.DepthSearchLemmas.{search_from}
use Rattle.snippet_parts.proofs.depths.raw_depth.Given as goal

-- what is found from here on is what is sought
abbrev pub invariant-loop-i : goal.invariant-loop-i
invariant-loop-i l =
    (search_from l.deepest l.place (drop l.i (take l.near l.later)) (drop l.i l.raws) ≡ search_from 0 l.place (take l.near l.later) l.raws)
    × (l.deepest ≤ length l.later)
