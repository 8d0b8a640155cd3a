use Rattle.std.proofs.Common.{◌≡◌, inl, inr}
use Rattle.std.specs.Prelude.{Err, Ok}
use Rattle.redraw_report.specs.declared.diagnostic.Diagnostic.{Diagnostic}
use Rattle.redraw_run.specs.Fates.{IsDiagnosed, IsErrorLost, IsReportedAs, IsTakingRead}
use Rattle.redraw_run.proofs.Doing.{goes_as}
use Rattle.redraw_run.proofs.Fated.{unread_wrong}
use Rattle.redraw_run.proofs.report.take_read.Goals as goal

pub returns-in-Ok : goal.returns-in-Ok
returns-in-Ok g c =
    let Is = λ (d : Diagnostic). c.args.read ≡ Ok d in
    let finding = c.in-Ok.finding in
    record {
      does = goes_as (IsTakingRead finding) (IsDiagnosed Is) _ _ c.take.result (λ ds h. inr (inr (finding, c.in-Ok.is, h))) c.take.ensures.does;
    }

pub returns-in-Err : goal.returns-in-Err
returns-in-Err g c =
    let Is = λ (d : Diagnostic). c.args.read ≡ Ok d in
    record { does = goes_as IsErrorLost (IsDiagnosed Is) _ _ c.lose.result (λ ds h. inl h) (c.lose.ensures.does _) }

pub returns-in-Err-2 : goal.returns-in-Err-2
returns-in-Err-2 g c =
    let Is = λ (d : Diagnostic). c.args.read ≡ Ok d in
    let fault = c.in-Err.fault in
    record {
      does = goes_as (IsReportedAs (λ (d : Diagnostic). Err fault ≡ Ok d)) (IsDiagnosed Is) _ _ c.finding.result
          (λ ds h. inr (inl (unread_wrong fault c.args.drawing.now.choice ds h))) c.finding.ensures.does;
    }
