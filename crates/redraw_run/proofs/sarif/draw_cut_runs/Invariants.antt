use Rattle.std.proofs.Common.{◌≡◌, take}
use Rattle.json_lines.specs.Cut.{IsCutOf}
use Rattle.serde_json.specs.Data.{Data}
use Rattle.redraw_run.specs.Deeds.{Does, standing}
use Rattle.redraw_run.specs.Fates.{Each, IsLongRun}
use Rattle.output_stream.specs.Standing.{known}
use Rattle.redraw_run.proofs.sarif.draw_cut_runs.Given as goal

-- what is done of the runs so far, and the text is the same
abbrev pub invariant-loop-index : goal.invariant-loop-index
invariant-loop-index g l =
    (l.results.text.now ≡ l.fn.text)
    × ((d : Data) (is : IsCutOf d l.fn.log) → Does (Each (IsLongRun l.fn.text) (take l.index is.runs))
    (standing l.fn.drawing (known g.W.Write.contents l.fn.out) (known g.V.Write.contents l.fn.err))
    (standing l.drawing (known g.W.Write.contents l.out) (known g.V.Write.contents l.err)))
