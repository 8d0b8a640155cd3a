use Rattle.snippet_grid.proofs.CutLemmas.{run_single}
use Rattle.snippet_grid.proofs.RunLemmas.{starts_at_boundary, ends_at_boundary}
use Rattle.snippet_grid.proofs.runs.byte_in.Goals as goal

pub range-requires-clause-start_boundary : goal.range-requires-clause-start_boundary
range-requires-clause-start_boundary c =
    λ _. starts_at_boundary c.args.text.now c.args.run.now c.utf8.text c.requires.run

pub range-requires-clause-end_boundary : goal.range-requires-clause-end_boundary
range-requires-clause-end_boundary c =
    ends_at_boundary c.args.text.now c.args.run.now c.utf8.text c.requires.run

pub returns-then-run-clause-value : goal.returns-then-run-clause-value
returns-then-run-clause-value c =
    run_single c.args.text.now c.args.run.now c.args.count c.utf8.text c.requires.run c.if-run.true c.requires.within
