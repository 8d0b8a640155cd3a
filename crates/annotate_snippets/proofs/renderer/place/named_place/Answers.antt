use Rattle.std.proofs.Common.{arith}
use Rattle.std.proofs.lemmas.Grind.{common_steps}
use Rattle.annotate_snippets.proofs.Common.{◌+◌, Some, Loc, locations_of-start, OriginLocation}
use Rattle.annotate_snippets.proofs.renderer.place.named_place.Goals as goal

-- a place as an origin names it
named : Loc → OriginLocation
named at = record { line = Some at.line; column = Some (at.char + 1) }

pub returns-in-Some : goal.returns-in-Some
unfolding named
returns-in-Some c = grind (arith, common_steps, locations_of-start, named)
