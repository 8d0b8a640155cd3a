use Rattle.snippet_grid.proofs.Common.{refl}
use Rattle.snippet_grid.proofs.OpenRowLemmas.{none_printed}
use Rattle.snippet_grid.proofs.printed_row.PrintedRow.after.Goals as goal

pub returns-clause-none : goal.returns-clause-none
returns-clause-none c =
    none_printed c.args.codes.now c.args.level _ record { under = refl; grouped = refl; plain = refl; unlinked = refl }
