use Rattle.snippet_grid.proofs.Common.{common_steps, arith}
use Rattle.snippet_grid.proofs.OpenRowLemmas.{linked_alike}
use Rattle.snippet_grid.proofs.RunLemmas.{starts_at_boundary, ends_at_boundary}
use Rattle.snippet_grid.proofs.row_runs.write_run.Goals as goal

pub range-word-requires-clause-start_boundary : goal.range-word-requires-clause-start_boundary
range-word-requires-clause-start_boundary g c = λ _. starts_at_boundary c.args.text.now c.args.run.now c.utf8.text c.requires.run

pub range-word-requires-clause-end_boundary : goal.range-word-requires-clause-end_boundary
range-word-requires-clause-end_boundary g c = ends_at_boundary c.args.text.now c.args.run.now c.utf8.text c.requires.run

pub returns-in-Some : goal.returns-in-Some
returns-in-Some g c = grind (arith, common_steps, g.S.RowSink.adds, linked_alike, c.range-word.ensures.value, c.in-Some.is, c.add_link.ensures.added)
