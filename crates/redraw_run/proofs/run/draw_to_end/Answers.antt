use Rattle.std.proofs.Common.{ap}
use Rattle.program.specs.Inputs.{held_by}
use Rattle.redraw_run.proofs.Gone.{cut_run, finishes_by, unwritten}
use Rattle.output_stream.specs.Standing.{known}
use Rattle.redraw_run.proofs.run.draw_to_end.Goals as goal

pub returns-in-Ok-clause-runs : goal.returns-in-Ok-clause-runs
returns-in-Ok-clause-runs g c =
    finishes_by (held_by g.R.File.Read.remaining g.R.Reader.Read.remaining) _ _ _ c.in-Ok.is_whole _ c.finish.result c.in-Ok.ensures.drawn
    c.finish.ensures.last c.finish.ensures.status

pub returns-in-Err-clause-runs : goal.returns-in-Err-clause-runs
returns-in-Err-clause-runs g c =
    cut_run (held_by g.R.File.Read.remaining g.R.Reader.Read.remaining) _ _ _ _ c.end_unwritten.result c.in-Err.ensures.cut
    (unwritten _ _ (λ closed. ap (known g.V.Write.contents) (c.end_unwritten.ensures.silent closed)) c.end_unwritten.ensures.told)
    c.end_unwritten.ensures.status
