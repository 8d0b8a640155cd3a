use Rattle.std.proofs.Common.{inl, inr}
use Rattle.redraw_run.specs.Fates.{IsCompared, IsDrawing, IsShown, IsWritten}
use Rattle.redraw_run.proofs.Doing.{goes_as}
use Rattle.output_stream.specs.Standing.{known}
use Rattle.redraw_run.proofs.draw.Drawing.draw.Goals as goal

pub returns-in-Report-clause-does : goal.returns-in-Report-clause-does
returns-in-Report-clause-does g c =
    let d = c.args.diagnostic.now in
    goes_as (IsShown d) (IsDrawing d) _ _ c.draw_report.result (λ ds h. inl (c.in-Report.is, h)) (c.draw_report.ensures.does c.in-Report.is)

pub returns-in-Workflow-clause-does : goal.returns-in-Workflow-clause-does
returns-in-Workflow-clause-does g c =
    let d = c.args.diagnostic.now in
    goes_as (IsWritten d) (IsDrawing d) _ _ c.draw_command.result (λ ds h. inr (inl (c.in-Workflow.is, h)))
    (c.draw_command.ensures.does c.in-Workflow.is (known g.V.Write.contents c.args.err.now))

pub returns-in-Verify-clause-does : goal.returns-in-Verify-clause-does
returns-in-Verify-clause-does g c =
    let d = c.args.diagnostic.now in
    goes_as (IsCompared d) (IsDrawing d) _ _ c.compare.result (λ ds h. inr (inr (c.in-Verify.is, h)))
    (c.compare.ensures.does c.in-Verify.is (known g.V.Write.contents c.args.err.now))
