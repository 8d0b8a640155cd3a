use Rattle.std.proofs.Common.{◌∙◌, ℕ, List, ap, arith, length, refl, take}
use Rattle.std.specs.Prelude.{option_and_then}
use Rattle.std.proofs.lemmas.List.{take_all}
use Rattle.json_lines.specs.Lenient.{values}
use Rattle.serde_json.specs.Find.{as_array}
use Rattle.serde_json.specs.View.{view}
use Rattle.redraw_run.specs.Deeds.{IsPartOfDeeds}
use Rattle.redraw_run.specs.Fates.{Each, IsCutLog, IsLongRun, Then}
use Rattle.redraw_run.proofs.Doing.{does_as, does_then, goes_on, part_as, stops_as, stops_then}
use Rattle.redraw_run.proofs.Done.{does_same}
use Rattle.redraw_run.proofs.Fated.{does_of}
use Rattle.redraw_run.proofs.LongLogs.{as_many_runs, cut_does, cut_stops, run_at, runs_cut, runs_next, runs_part}
use Rattle.redraw_run.proofs.sarif.draw_cut_runs.Goals as goal

pub loop-index-init : goal.loop-index-init
loop-index-init g c = (ap (λ t. t.now) c.new-results.ensures.text, λ d is. does_same refl refl refl refl refl)

pub loop-index-preserved : goal.loop-index-preserved
loop-index-preserved g c =
    let text : List ℕ = c.args.text.now in
    let held : List ℕ = c.loop-index.results.text.now in
    let i = c.loop-index.index in
    let log = c.args.log.now in
    let items = c.items_of-items.result.now in (
      ap (λ t. t.now) c.draw_cut_run.ensures.kept ∙ c.loop-index.invariant.0,
      λ d is.
          let same = runs_cut d log is items (c.items_of-items.ensures.value ∙ ap (λ o. values (option_and_then as_array o)) c.get.ensures) in
          let at = run_at items is.runs log.results.items i c.value-item.result same is.results c.loop-index-test.true c.value-item.is in
          does_as (runs_next text is.runs i at.run at.within at.is c.args.drawing.now.choice)
          (does_then (c.loop-index.invariant.1 d is)
          (cut_does held text _ _ (view c.node.result.value.now) _ c.loop-index.invariant.0
          (ap length (c.places_of-places.ensures.own at.own at.there) ∙ at.each)
          (ap view c.node.ensures.value ∙ at.value_is) c.in_ok-draw_cut_run.ensures.does)),
    )

pub returns-in_err-draw_cut_run : goal.returns-in_err-draw_cut_run
returns-in_err-draw_cut_run g c =
    let text : List ℕ = c.args.text.now in
    let held : List ℕ = c.loop-index.results.text.now in
    let i = c.loop-index.index in
    let log = c.args.log.now in
    let choice = c.args.drawing.now.choice in
    let items = c.items_of-items.result.now in
    record {
      does = λ d is.
          let same = runs_cut d log is items (c.items_of-items.ensures.value ∙ ap (λ o. values (option_and_then as_array o)) c.get.ensures) in
          let at = run_at items is.runs log.results.items i c.value-item.result same is.results c.loop-index-test.true c.value-item.is in
          let before = Each (IsLongRun text) (take i is.runs) in
          let next = IsPartOfDeeds (IsLongRun text at.run) in
          goes_on (IsCutLog text d) _ _ _ c.from_residual.result c.from_residual.ensures.1
          (stops_as (Then before next) (IsPartOfDeeds (IsCutLog text d)) _ _ _
          (λ ds h. part_as {P = Each (IsLongRun text) is.runs} choice ds (λ es k. (is.runs, is.listed, k))
          (runs_part text is.runs i at.run at.within at.is choice ds h))
          (stops_then before next _ _ _ _ (c.loop-index.invariant.1 d is)
          (cut_stops _ _ _ held text _ _ (view c.node.result.value.now) _ c.loop-index.invariant.0
          (ap length (c.places_of-places.ensures.own at.own at.there) ∙ at.each)
          (ap view c.node.ensures.value ∙ at.value_is) c.in_err-draw_cut_run.ensures.does)));
    }

pub returns : goal.returns
returns g c =
    let text : List ℕ = c.args.text.now in
    let i = c.loop-index.index in
    let items = c.items_of-items.result.now in
    record {
      does = λ d is.
          let same = runs_cut d c.args.log.now is items (c.items_of-items.ensures.value ∙ ap (λ o. values (option_and_then as_array o)) c.get.ensures) in
          let all = take_all i is.runs (omega (arith, as_many_runs items is.runs same)) in
          does_as (λ ds h. (is.runs, is.listed, h)) (does_of (Each (IsLongRun text)) (take i is.runs) is.runs all (c.loop-index.invariant.1 d is));
    }
