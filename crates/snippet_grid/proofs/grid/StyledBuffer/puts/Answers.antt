use Rattle.snippet_grid.proofs.Common.{common_steps, arith, rules}
use Rattle.snippet_grid.proofs.GridShown.{WritesCells-from_equal, chars_some}
use Rattle.snippet_grid.proofs.grid.StyledBuffer.puts.Goals as goal

pub write_word-requires-clause-some : goal.write_word-requires-clause-some
write_word-requires-clause-some c = chars_some c.args.text.now c.utf8.text (first_of (omega arith, search rules, grind arith))

pub returns-clause-reads : goal.returns-clause-reads
returns-clause-reads c = grind (arith, common_steps, WritesCells-from_equal, c.write_word.ensures.ok)
