use Rattle.std.proofs.Common.{refl}
use Rattle.redraw_run.specs.Fates.{IsTaking, IsTakingRead}
use Rattle.redraw_run.proofs.Doing.{goes_as, goes_err, stops_none}
use Rattle.redraw_run.proofs.Done.{does_same}
use Rattle.redraw_run.proofs.draw.Drawing.take.Goals as goal

pub returns-in_err-shown : goal.returns-in_err-shown
returns-in_err-shown g c =
    let Taken = IsTakingRead c.args.diagnostic in
    record {
      does = goes_err Taken _ _ c.from_residual.result c.from_residual.ensures.1 (λ s q. stops_none Taken s q (does_same refl refl refl refl refl));
    }

pub returns : goal.returns
returns g c =
    let shown = c.in_ok-shown.shown in
    record {
      does = goes_as (IsTaking shown) (IsTakingRead c.args.diagnostic) _ _ c.draw_chosen.result
          (λ ds h. (shown, c.in_ok-shown.ensures.shown, h)) c.draw_chosen.ensures.does;
    }
