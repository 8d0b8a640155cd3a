use Rattle.std.proofs.Common.{◌≡◌}
use Rattle.serde_json.specs.View.{view}
use Rattle.redraw_run.specs.Deeds.{Does, standing}
use Rattle.redraw_run.specs.Fates.{IsCutRun}
use Rattle.output_stream.specs.Standing.{known}
use Rattle.redraw_run.proofs.sarif.draw_cut_run.Given as goal

-- what is done of the run's results so far, and the text is the same
abbrev pub invariant-loop-index : goal.invariant-loop-index
invariant-loop-index g l =
    (l.results.text ≡ l.fn.results.text)
    × Does (IsCutRun l.fn.results.text.now l.index (view l.fn.node.value.now))
    (standing l.fn.drawing (known g.W.Write.contents l.fn.out) (known g.V.Write.contents l.fn.err))
    (standing l.drawing (known g.W.Write.contents l.out) (known g.V.Write.contents l.err))
