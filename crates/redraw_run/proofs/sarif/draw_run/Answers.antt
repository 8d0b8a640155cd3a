use Rattle.std.proofs.Common.{◌+◌, ◌∙◌, List, ap, map, arith, refl, subst, sym, take}
use Rattle.serde_json.specs.Data.{Data}
use Rattle.serde_json.specs.View.{view}
use Rattle.redraw_command.specs.declared.choice.Choice.{Choice}
use Rattle.redraw_run.specs.Deeds.{IsPartOfDeeds}
use Rattle.redraw_run.specs.Fates.{AreMessages, Each, IsLogRun, IsResult, Then}
use Rattle.redraw_run.specs.Logged.{results_of}
use Rattle.redraw_tools.specs.Log.{IsRunOf}
use Rattle.std.proofs.lemmas.List.{take_all}
use Rattle.redraw_run.proofs.Doing.{does_as, does_then, goes_err, goes_on, stops_any, stops_as, stops_then}
use Rattle.redraw_run.proofs.Done.{does_tell_all}
use Rattle.redraw_run.proofs.Fated.{does_of, each_next, each_part, each_some, happens_of, messages_begin, messages_more, messages_part, result_some}
use Rattle.redraw_run.proofs.Fated.{results_are, run_messages, stops_of}
use Rattle.redraw_run.proofs.sarif.draw_run.Goals as goal

pub returns-in_err-tell_all : goal.returns-in_err-tell_all
returns-in_err-tell_all g c =
    let form = c.args.form in
    let run = view c.args.node.value.now in
    record {
      does = goes_err (IsLogRun form run) _ _ c.from_residual.result c.from_residual.ensures.1
          (λ s q. stops_any s (q ∙ c.in_err-tell_all.ensures.memory)
          (does_as {P = AreMessages} (run_messages form run c.args.drawing.now.choice)
          (does_tell_all c.in_err-tell_all.ensures.told refl refl refl refl)));
    }

pub loop-index-init : goal.loop-index-init
loop-index-init g c =
    let none = Each (IsResult c.args.form (view c.args.node.value.now)) (map view (take 0 c.results-results.result.items.now)) in
    does_as (λ ds h. messages_begin none c.args.drawing.now.choice ds refl h) (does_tell_all c.in_ok-tell_all.ensures.told refl refl refl refl)

pub loop-index-preserved : goal.loop-index-preserved
loop-index-preserved g c =
    let form = c.args.form in
    let run = view c.args.node.value.now in
    let choice = c.args.drawing.now.choice in
    let results = c.results-results.result.items.now in
    let i = c.loop-index.index in
    let result = c.value-item.result in
    let Are = IsResult form run in
    let of = subst (λ (ch : Choice). IsRunOf form ch.columns run c.new-run.result) (sym c.loop-index.invariant.choice) c.new-run.ensures.is in
    does_as
    (λ ds h. messages_more (Each Are (map view (take i results))) (Are (view result)) (Each Are (map view (take (i + 1) results))) choice ds
    (each_next Are view results i result c.loop-index-test.true c.value-item.is choice) h)
    (does_then c.loop-index.invariant
    (does_of Are (view c.node.result.value.now) (view result) (ap view c.node.ensures.value) (c.in_ok-draw_result.ensures.does form run of)))

pub returns-in_err-draw_result : goal.returns-in_err-draw_result
returns-in_err-draw_result g c =
    let form = c.args.form in
    let run = view c.args.node.value.now in
    let choice = c.args.drawing.now.choice in
    let results = c.results-results.result.items.now in
    let i = c.loop-index.index in
    let result = c.value-item.result in
    let Are = IsResult form run in
    let before = Each Are (map view (take i results)) in
    let next = IsPartOfDeeds (Are (view result)) in
    let all = Each Are (map view results) in
    let some = result_some form run choice in
    let of = subst (λ (ch : Choice). IsRunOf form ch.columns run c.new-run.result) (sym c.loop-index.invariant.choice) c.new-run.ensures.is in
    let listed = c.results-results.ensures.value ∙ results_are form choice.columns run c.new-run.result c.new-run.ensures.is in
    record {
      does = happens_of (λ (rs : List Data). Then AreMessages (Each Are rs)) _ _ c.from_residual-in_err-draw_result.result (map view results)
          (results_of form run) listed
          (goes_on (Then AreMessages all) _ _ _ c.from_residual-in_err-draw_result.result c.from_residual-in_err-draw_result.ensures.1
          (stops_as (Then (Then AreMessages before) next) (IsPartOfDeeds (Then AreMessages all)) _ _ _
          (λ ds h. messages_part before next all choice ds (each_some Are choice some (map view results))
          (each_part Are view results i result c.loop-index-test.true c.value-item.is choice some) h)
          (stops_then (Then AreMessages before) next _ _ _ _ c.loop-index.invariant
          (stops_of Are _ _ _ (view c.node.result.value.now) (view result) (ap view c.node.ensures.value) (c.in_err-draw_result.ensures.does form run of)))));
    }

pub returns : goal.returns
returns g c =
    let form = c.args.form in
    let run = view c.args.node.value.now in
    let results = c.results-results.result.items.now in
    let i = c.loop-index.index in
    let all = take_all i results (omega arith) in
    let listed = c.results-results.ensures.value
    ∙ results_are form c.args.drawing.now.choice.columns run c.new-run.result c.new-run.ensures.is in
    record {
      does = does_of (λ (rs : List Data). Then AreMessages (Each (IsResult form run) rs)) (map view (take i results)) (results_of form run)
          (ap (map view) all ∙ listed) c.loop-index.invariant;
    }
