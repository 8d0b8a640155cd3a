use Rattle.std.proofs.Common.{◌-◌, ℕ, List, drop, length, subst, take}
use Rattle.std.proofs.lemmas.List.{take_rest}
use Rattle.redraw_run.specs.Fates.{IsCutLog}
use Rattle.redraw_run.proofs.Doing.{goes_as}
use Rattle.redraw_run.proofs.LongLogs.{cut_after}
use Rattle.redraw_run.proofs.input.Reading.log.Goals as goal

pub returns : goal.returns
returns g c =
    let piece : List ℕ = c.args.piece.now in
    let n = c.mark_length.result in
    let text : List ℕ = take (length piece - n) (drop n piece) in
    let choice = c.args.drawing.now.choice in
    record {
      does = λ d is. goes_as (IsCutLog text d) (IsCutLog piece d) _ _ c.cut_sarif_log.result
          (λ ds h. cut_after n piece d choice ds (subst (λ (t : List ℕ). IsCutLog t d choice ds) (take_rest piece n) h))
          (c.cut_sarif_log.ensures.does d is);
    }
