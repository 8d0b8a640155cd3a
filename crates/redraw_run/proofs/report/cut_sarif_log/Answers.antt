use Rattle.std.proofs.Common.{subst, sym}
use Rattle.output_stream.specs.Standing.{Standing, known}
use Rattle.redraw_run.specs.Deeds.{Happens, State}
use Rattle.redraw_run.specs.Fates.{IsCutLog}
use Rattle.redraw_run.specs.Deeds.{standing}
use Rattle.redraw_run.proofs.report.cut_sarif_log.Goals as goal

-- which files are at hand is no part of what is told so far
pub returns : goal.returns
returns g c =
    let text = c.args.text.now in
    let out : Standing = known g.W.Write.contents c.draw_cut_runs-drawn.new.out in
    let err : Standing = known g.V.Write.contents c.draw_cut_runs-drawn.new.err in
    let begun : State = standing c.args.drawing.now (known g.W.Write.contents c.args.out.now) (known g.V.Write.contents c.args.err.now) in
    let ended : State = standing c.draw_cut_runs-drawn.new.drawing out err in
    let first = c.swap_sources.ensures.kept (known g.W.Write.contents c.args.out.now) (known g.V.Write.contents c.args.err.now) in
    let last = c.swap_sources-2.ensures.kept out err in
    record {
      does = λ d is. subst (λ (b : State). Happens c.draw_cut_runs-drawn.result (IsCutLog text d) begun b) (sym last)
          (subst (λ (a : State). Happens c.draw_cut_runs-drawn.result (IsCutLog text d) a ended) first (c.draw_cut_runs-drawn.ensures.does d is));
    }
