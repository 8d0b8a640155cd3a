use Rattle.snippet_grid.proofs.Common.{common_steps, ◌∙◌, ap, sym, arith, length, false≢true, length-chars_le}
use Rattle.snippet_grid.proofs.grid.StyledBuffer.append.Goals as goal

pub puts-requires-clause-end : goal.puts-requires-clause-end
puts-requires-clause-end c = omega (arith, c.fits.ensures.value.0 c.if-not-fits.false)

pub returns-then-not-fits-clause-empty_succeeds : goal.returns-then-not-fits-clause-empty_succeeds
returns-then-not-fits-clause-empty_succeeds c =
    λ none. absurd (false≢true (sym c.if-not-fits.true ∙ c.fits.ensures.value.1 (omega (arith, length-chars_le c.args.text.now, ap length none))))

pub returns-clause-ok : goal.returns-clause-ok
returns-clause-ok c = grind (arith, common_steps, c.width-end.ensures.value, c.puts.ensures.ok)

pub returns-clause-reads : goal.returns-clause-reads
returns-clause-reads c = grind (arith, common_steps, c.width-end.ensures.value, c.puts.ensures.reads)
