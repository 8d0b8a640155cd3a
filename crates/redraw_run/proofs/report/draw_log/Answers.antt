use Rattle.std.proofs.Common.{◌≡◌, List, inl, inr, map, subst, sym}
use Rattle.std.specs.Prelude.{Err, Ok}
use Rattle.serde_json.specs.Data.{Data}
use Rattle.serde_json.specs.View.{view}
use Rattle.redraw_tools.specs.declared.log.LogForm.TheVariants as form
use Rattle.redraw_report.specs.declared.diagnostic.Diagnostic.{Diagnostic}
use Rattle.redraw_run.specs.Fates.{AreRuns, IsLog, IsReportedAs}
use Rattle.redraw_run.proofs.Doing.{goes_as}
use Rattle.redraw_run.proofs.Fated.{runs_listed, unread_wrong}
use Rattle.redraw_run.proofs.report.draw_log.Goals as goal

pub returns-in-Ok : goal.returns-in-Ok
returns-in-Ok g c =
    let log = view c.args.node.now.value.now in
    let runs = c.in-Ok.runs.now in
    let listed = runs_listed log runs c.in-Ok.ensures.value in
    record {
      does = goes_as (AreRuns form.Sarif (map view runs)) (IsLog log) _ _ c.draw_runs.result
          (λ ds h. inr (subst (λ (l : List Data). AreRuns form.Sarif l c.args.drawing.now.choice ds) (sym listed) h)) c.draw_runs.ensures.does;
    }

pub returns-in-Err : goal.returns-in-Err
returns-in-Err g c =
    let fault = c.in-Err.fault in
    let choice = c.args.drawing.now.choice in
    let log = IsLog (view c.args.node.now.value.now) in
    record {
      does = goes_as (IsReportedAs (λ (d : Diagnostic). Err fault ≡ Ok d)) log _ _ c.finding.result (λ ds h. inl (unread_wrong fault choice ds h))
          c.finding.ensures.does;
    }
