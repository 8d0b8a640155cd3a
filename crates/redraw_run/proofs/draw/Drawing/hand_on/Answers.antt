use Rattle.std.proofs.Common.{◌∙◌, refl}
use Rattle.redraw_run.specs.Fates.{IsHandedOn}
use Rattle.redraw_run.proofs.Doing.{goes_err, stops_none}
use Rattle.redraw_run.proofs.Done.{does_same, goes_handed}
use Rattle.redraw_run.proofs.draw.Drawing.hand_on.Goals as goal

pub returns : goal.returns
returns g c =
    record {
      does = λ err. goes_handed _ _ c.pass.result c.args.line.now _ refl refl refl refl (c.deref.ensures.value ∙ c.in_ok-handed.ensures.value)
          c.pass.ensures.writes;
    }

pub returns-in_err-handed : goal.returns-in_err-handed
returns-in_err-handed g c =
    record {
      does = λ err. goes_err (IsHandedOn c.args.line.now) _ _ c.from_residual.result c.from_residual.ensures.1
          (λ s q. stops_none (IsHandedOn c.args.line.now) s q (does_same refl refl refl refl refl));
    }
