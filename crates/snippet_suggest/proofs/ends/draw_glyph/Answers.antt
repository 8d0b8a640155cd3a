use Rattle.snippet_suggest.proofs.Common.{arith, ap, length, common_steps}
use Rattle.snippet_suggest.proofs.PutLemmas.{glyph_below, glyph_over}
use Rattle.snippet_suggest.proofs.GlyphLemmas.{glyph_short}
use Rattle.snippet_suggest.proofs.ends.draw_glyph.Goals as goal

pub puts-requires-clause-end : goal.puts-requires-clause-end
puts-requires-clause-end c =
    omega (arith, c.separator_cell.ensures.few, glyph_short c.base.inside.decor c.args.glyph, ap length c.text.ensures.value)

pub returns : goal.returns
returns c = grind (arith, common_steps, glyph_over, glyph_below)
