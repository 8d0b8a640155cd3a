use Rattle.snippet_grid.proofs.Common.{common_steps, ap, arith, length, row_at}
use Rattle.snippet_grid.proofs.ReplaceLemmas.{ReplacesCells-from_equal}
use Rattle.snippet_grid.proofs.grid.StyledBuffer.replace.Goals as goal

pub returns-clause-reads : goal.returns-clause-reads
returns-clause-reads c = grind (arith, common_steps, ReplacesCells-from_equal, c.replace_cells.ensures.ok)

pub returns-clause-past_succeeds : goal.returns-clause-past_succeeds
returns-clause-past_succeeds c =
    λ past. c.replace_cells.ensures.past_succeeds (omega (arith, past, ap (λ rows. length (row_at rows c.args.row)) c.self.view_is))
