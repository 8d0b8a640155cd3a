use Rattle.std.proofs.lemmas.Grind.{common_steps}
use Rattle.std.proofs.Common.{arith}
use Rattle.redraw_read.proofs.Indexed.{is_placed}
use Rattle.redraw_read.proofs.sources.Sources.has.Goals as goal

pub returns : goal.returns
returns g c = grind (arith, common_steps, is_placed, c.is_some.ensures, c.place.ensures.value)
