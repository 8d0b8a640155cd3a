use Rattle.snippet_parts.proofs.Common.{◌≡◌, ◌&&◌, false, take, list_any, long_place, is_primary, same_place, seen_long}
use Rattle.snippet_parts.proofs.made_entries.is_place_of_primary.Given as goal

-- none so far is primary and has the place
abbrev pub invariant-loop-other : goal.invariant-loop-other
invariant-loop-other l =
    list_any (λ other. is_primary other.kind && same_place (long_place (seen_long l.span)) (long_place (seen_long other))) (take l.other-index l.others) ≡ false
