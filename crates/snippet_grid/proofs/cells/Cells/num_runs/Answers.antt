use Rattle.snippet_grid.proofs.Common.{common_steps, arith, string_bytes}
use Rattle.snippet_grid.proofs.RunBoundLemmas.{most_in}
use Rattle.snippet_grid.proofs.RunBounds.{runs_bounded}
use Rattle.snippet_grid.proofs.cells.Cells.num_runs.Goals as goal

pub returns : goal.returns
returns c =
    grind (
      arith,
      common_steps,
      c.len.ensures,
      runs_bounded (string_bytes c.self.inside.text) c.self.inside.runs.items c.self.inside.widths.items c.self.invariant.0,
      most_in c.args.self.now.rows,
    )
