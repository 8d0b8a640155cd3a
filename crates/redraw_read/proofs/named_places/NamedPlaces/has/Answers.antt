use Rattle.std.proofs.Common.{arith}
use Rattle.std.proofs.lemmas.Grind.{common_steps}
use Rattle.redraw_read.proofs.LineNumbers.{has_number}
use Rattle.redraw_read.proofs.named_places.NamedPlaces.has.Goals as goal

pub returns-in-Some-clause-value : goal.returns-in-Some-clause-value
returns-in-Some-clause-value c =
    grind (arith, common_steps, has_number, c.is_among.ensures.value, c.as_str.ensures.value, c.in_ok-place.ensures.ok, c.in-Some.is)

pub returns-clause-value : goal.returns-clause-value
returns-clause-value c =
    grind (arith, common_steps, has_number, c.is_among-is_named.ensures.value, c.as_str-2.ensures.value, c.in_ok-place.ensures.ok, c.in_ok-names.ensures.each)
