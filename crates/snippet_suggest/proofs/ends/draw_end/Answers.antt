use Rattle.snippet_suggest.proofs.Common.{arith}
use Rattle.snippet_suggest.proofs.PutLemmas.{end_is}
use Rattle.snippet_suggest.proofs.ends.draw_end.Goals as goal

pub returns-clause-cells : goal.returns-clause-cells
returns-clause-cells c = grind (arith, end_is, c.args, c.in_ok-draw_glyph.ensures.below, c.num_lines.ensures.count, c.end_glyph.ensures.value)
