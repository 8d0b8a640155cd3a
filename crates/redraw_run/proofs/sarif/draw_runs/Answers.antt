use Rattle.std.proofs.Common.{ap, map, refl, take}
use Rattle.serde_json.specs.View.{view}
use Rattle.redraw_run.specs.Deeds.{IsPartOfDeeds}
use Rattle.redraw_run.specs.Fates.{AreRuns, IsLogRun, Then}
use Rattle.redraw_run.proofs.Doing.{does_as, does_then, goes_on, stops_as, stops_then}
use Rattle.redraw_run.proofs.Done.{does_same}
use Rattle.redraw_run.proofs.Fated.{does_of, each_next, each_part, run_some, stops_of}
use Rattle.redraw_run.proofs.sarif.draw_runs.Goals as goal

pub loop-index-init : goal.loop-index-init
loop-index-init g c = does_same refl refl refl refl refl

pub loop-index-preserved : goal.loop-index-preserved
loop-index-preserved g c =
    let runs = c.args.runs.now in
    does_as
    (each_next (IsLogRun c.args.form) view runs c.loop-index.index c.value-item.result c.loop-index-test.true c.value-item.is c.args.drawing.now.choice)
    (does_then c.loop-index.invariant
    (does_of (IsLogRun c.args.form) (view c.node.result.value.now) (view c.value-item.result) (ap view c.node.ensures.value) c.in_ok-draw_run.ensures.does))

pub returns-in_err-draw_run : goal.returns-in_err-draw_run
returns-in_err-draw_run g c =
    let runs = c.args.runs.now in
    let form = c.args.form in
    let choice = c.args.drawing.now.choice in
    let all = AreRuns form (map view runs) in
    let before = AreRuns form (map view (take c.loop-index.index runs)) in
    let next = IsPartOfDeeds (IsLogRun form (view c.value-item.result)) in
    record {
      does = goes_on all _ _ _ c.from_residual.result c.from_residual.ensures.1
          (stops_as (Then before next) (IsPartOfDeeds all) _ _ _
          (each_part (IsLogRun form) view runs c.loop-index.index c.value-item.result c.loop-index-test.true c.value-item.is choice (run_some form choice))
          (stops_then before next _ _ _ _ c.loop-index.invariant
          (stops_of (IsLogRun form) _ _ _ (view c.node.result.value.now) (view c.value-item.result) (ap view c.node.ensures.value)
          c.in_err-draw_run.ensures.does)));
    }
