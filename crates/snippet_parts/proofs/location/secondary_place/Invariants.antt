use Rattle.snippet_parts.proofs.Common.{◌≡◌, map, option_or, seen_kept, secondary_place}
use Rattle.snippet_parts.proofs.LocationLemmas.{place_from}
use Rattle.snippet_parts.proofs.LocationWords.{bare_place, entry_place, first_place}
use Rattle.snippet_parts.proofs.location.secondary_place.Given as goal

-- what is asked for is the place of an entry on the lines that are left, else the first line
abbrev pub invariant-loop-info : goal.invariant-loop-info
invariant-loop-info l =
    option_or (place_from entry_place l.lines l.info-index) (first_place bare_place (map seen_kept l.lines)) ≡ secondary_place (map seen_kept l.lines)
