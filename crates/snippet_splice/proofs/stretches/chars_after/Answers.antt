use Rattle.snippet_splice.proofs.Common.{arith, eqb-true, IsCharBoundary-after_ascii}
use Rattle.std.proofs.Common.{eq-eqb}
use Rattle.snippet_splice.proofs.StretchLemmas.{after_few, chars_anew, chars_more}
use Rattle.snippet_splice.proofs.stretches.chars_after.Goals as goal

pub range_from-requires : goal.range_from-requires
range_from-requires c = grind (arith, eqb-true, IsCharBoundary-after_ascii)

pub returns-in-Some : goal.returns-in-Some
returns-in-Some c = grind (arith, eqb-true, eq-eqb, chars_anew)

pub returns-in-None : goal.returns-in-None
returns-in-None c = grind (arith, eq-eqb, chars_more, after_few)
