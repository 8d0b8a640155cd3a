use Rattle.std.proofs.Common.{arith}
use Rattle.std.proofs.lemmas.Grind.{common_steps}
use Rattle.redraw_read.proofs.Counting.{clamped-as}
use Rattle.redraw_read.proofs.spot.Placing.spot_in_text.Goals as goal

pub returns-clause-counted : goal.returns-clause-counted
returns-clause-counted c =
    grind (arith, common_steps, clamped-as, c.as_str.ensures.value, c.locate-located.ensures.located, c.requires.lined, c.counted-self.ensures.value)
