use Rattle.std.proofs.lemmas.Iterator.Consumers.{map_from_collect}
use Rattle.std.proofs.lemmas.Iterator.Splits.{YieldsList-from_lines}
use Rattle.redraw_tools.proofs.lines.lines_of.Goals as goal

pub returns : goal.returns
returns c = record { value = map_from_collect c.collect.result c.collect.ensures.ran (YieldsList-from_lines c.args.text.now c.lines.ensures.rest) }
