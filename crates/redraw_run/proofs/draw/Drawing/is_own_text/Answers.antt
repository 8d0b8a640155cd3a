use Rattle.std.proofs.Common.{subst}
use Rattle.redraw_run.specs.Readings.{IsDrawnIn}
use Rattle.redraw_run.specs.declared.look.ReportRenderer.{ReportRenderer}
use Rattle.redraw_run.proofs.draw.Drawing.is_own_text.Goals as goal

pub returns-clause-is : goal.returns-clause-is
returns-clause-is g c =
    let tried = c.in_ok-is_same.ensures.is in
    let look = c.rustc_look_for-look.ensures.look in
    (look.0, c.args.text.now, tried.0, tried.1, subst (λ (r : ReportRenderer). IsDrawnIn r tried.0) look.1 tried.2, tried.3)
