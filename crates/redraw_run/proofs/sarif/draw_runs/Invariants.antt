use Rattle.std.proofs.Common.{map, take}
use Rattle.serde_json.specs.View.{view}
use Rattle.redraw_run.specs.Deeds.{Does, standing}
use Rattle.redraw_run.specs.Fates.{AreRuns}
use Rattle.output_stream.specs.Standing.{known}
use Rattle.redraw_run.proofs.sarif.draw_runs.Given as goal

-- what is done of the runs so far
abbrev pub invariant-loop-index : goal.invariant-loop-index
invariant-loop-index g l =
    Does (AreRuns l.fn.form (map view (take l.index l.runs.items.now)))
    (standing l.fn.drawing (known g.W.Write.contents l.fn.out) (known g.V.Write.contents l.fn.err))
    (standing l.drawing (known g.W.Write.contents l.out) (known g.V.Write.contents l.err))
