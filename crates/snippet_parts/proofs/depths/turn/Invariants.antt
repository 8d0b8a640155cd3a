use Rattle.snippet_parts.proofs.Common.{◌≡◌, ◌+◌, ◌-◌, ◌++◌, map, take, drop}
use Rattle.snippet_parts.proofs.depths.turn.Given as goal

-- the depths so far, and the raw ones from here on
abbrev pub invariant-loop-depth : goal.invariant-loop-depth
invariant-loop-depth l =
    l.depths ≡ map (λ raw. l.greatest - raw + 1) (take l.depth-index l.initial.depths) ++ drop l.depth-index l.initial.depths
