use Rattle.std.proofs.Common.{◌≡◌, inl, inr, refl}
use Rattle.std.specs.Prelude.{Ok}
use Rattle.redraw_command.specs.declared.stop.Stop.TheVariants.{Memory}
use Rattle.redraw_report.specs.declared.diagnostic.Diagnostic.{Diagnostic}
use Rattle.redraw_run.specs.Fates.{IsReportedAs, IsTakingRead}
use Rattle.redraw_run.proofs.Doing.{does_as, does_nothing, goes_as, stops_none}
use Rattle.redraw_run.proofs.draw.Drawing.finding.Goals as goal

pub returns-in-Ok : goal.returns-in-Ok
returns-in-Ok g c =
    let d = c.in-Ok.diagnostic in
    record {
      does = goes_as (IsTakingRead d) (IsReportedAs (λ (x : Diagnostic). c.args.read ≡ Ok x)) _ _ c.take.result (λ ds h. inr (d, c.in-Ok.is, h))
          c.take.ensures.does;
    }

pub returns-in-Err : goal.returns-in-Err
returns-in-Err g c = record { does = does_as (λ ds h. inl h) (c.wrong.ensures.does _) }

pub returns-in-Err-Memory : goal.returns-in-Err-Memory
returns-in-Err-Memory g c =
    record { does = stops_none (IsReportedAs (λ (x : Diagnostic). c.args.read ≡ Ok x)) Memory refl (does_nothing _) }
