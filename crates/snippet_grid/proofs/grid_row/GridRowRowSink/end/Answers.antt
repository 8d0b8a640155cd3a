use Rattle.snippet_grid.proofs.Common.{◌∙◌, ap, appended}
use Rattle.snippet_grid.proofs.AppendLemmas.{appended-below}
use Rattle.snippet_grid.proofs.grid_row.GridRowRowSink.end.Goals as goal

pub returns-clause-gained : goal.returns-clause-gained
returns-clause-gained c = λ start cells adds some at.
    adds.grid ∙ ap (λ n. appended start.grid n cells) at ∙ appended-below start.grid cells some
