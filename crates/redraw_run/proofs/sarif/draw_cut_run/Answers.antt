use Rattle.std.proofs.Common.{◌∙◌, ◌≡◌, ◌+◌, ℕ, arith, length, refl, subst, sym}
use Rattle.serde_json.specs.View.{view}
use Rattle.redraw_command.specs.declared.choice.Choice.{Choice}
use Rattle.redraw_run.specs.Deeds.{IsPartOfDeeds}
use Rattle.redraw_run.specs.Fates.{AreMessages, AreStanding, IsCutRun, IsResult, StandsIn, Then}
use Rattle.redraw_tools.specs.Log.{IsRunOf}
use Rattle.redraw_tools.specs.declared.log.LogForm.TheVariants as form
use Rattle.redraw_run.proofs.Doing.{does_as, does_then, goes_err, goes_on, stops_any, stops_as, stops_then}
use Rattle.redraw_run.proofs.Done.{does_tell_all}
use Rattle.redraw_run.proofs.Fated.{does_of, messages_more, messages_part}
use Rattle.redraw_run.proofs.LongLogs.{cut_begins, cut_messages, cut_on, standing_more, standing_part, standing_some}
use Rattle.redraw_run.proofs.sarif.draw_cut_run.Goals as goal

pub returns-in_err-tell_all-clause-does : goal.returns-in_err-tell_all-clause-does
returns-in_err-tell_all-clause-does g c =
    let run = view c.args.node.value.now in
    let text = c.args.results.now.text.now in
    let all = length c.args.places.now in
    goes_err (IsCutRun text all run) _ _ c.from_residual.result c.from_residual.ensures.1
    (λ s q. stops_any s (q ∙ c.in_err-tell_all.ensures.memory)
    (does_as {P = AreMessages} (cut_messages text all run c.args.drawing.now.choice)
    (does_tell_all c.in_err-tell_all.ensures.told refl refl refl refl)))

pub loop-index-init : goal.loop-index-init
loop-index-init g c =
    let run = view c.args.node.value.now in
    let text = c.args.results.now.text.now in (
      refl,
      does_as {P = AreMessages} (cut_begins text run c.args.drawing.now.choice) (does_tell_all c.in_ok-tell_all.ensures.told refl refl refl refl),
    )

pub loop-index-preserved : goal.loop-index-preserved
loop-index-preserved g c =
    let run = view c.args.node.value.now in
    let text = c.args.results.now.text.now in
    let choice = c.args.drawing.now.choice in
    let value = view c.in_ok-value.value in
    let i = c.loop-index.index in
    let stands : StandsIn text value = subst (λ t. StandsIn t.now value) c.loop-index.invariant.0 c.in_ok-value.ensures.stands in
    let of = subst (λ (ch : Choice). IsRunOf form.Sarif ch.columns run c.new-run.result) (sym c.loop-index.invariant.1.choice) c.new-run.ensures.is in
    let old = AreStanding text i run in
    let new = AreStanding text (i + 1) run in (
      c.in_ok-value.ensures.kept ∙ c.loop-index.invariant.0,
      does_as (λ ds h. messages_more old (IsResult form.Sarif run value) new choice ds (λ es k. standing_more text i run value choice es stands k) h)
          (does_then c.loop-index.invariant.1 (c.in_ok-draw_result.ensures.does form.Sarif run of)),
    )

pub returns-in_err-draw_result-clause-does : goal.returns-in_err-draw_result-clause-does
returns-in_err-draw_result-clause-does g c =
    let run = view c.args.node.value.now in
    let text = c.args.results.now.text.now in
    let choice = c.args.drawing.now.choice in
    let value = view c.in_ok-value.value in
    let i = c.loop-index.index in
    let all = length c.args.places.now in
    let stands : StandsIn text value = subst (λ t. StandsIn t.now value) c.loop-index.invariant.0 c.in_ok-value.ensures.stands in
    let of = subst (λ (ch : Choice). IsRunOf form.Sarif ch.columns run c.new-run.result) (sym c.loop-index.invariant.1.choice) c.new-run.ensures.is in
    let next = IsPartOfDeeds (IsResult form.Sarif run value) in
    let more = c.loop-index-test.true in
    goes_on (IsCutRun text all run) _ _ _ c.from_residual-in_err-draw_result.result c.from_residual-in_err-draw_result.ensures.1
    (stops_as (Then (IsCutRun text i run) next) (IsPartOfDeeds (IsCutRun text all run)) _ _ _
    (λ ds h. messages_part (AreStanding text i run) next (AreStanding text all run) choice ds (standing_some text all run choice)
    (λ es k. standing_part text i all run value choice es more stands k) h)
    (stops_then (IsCutRun text i run) next _ _ _ _ c.loop-index.invariant.1 (c.in_err-draw_result.ensures.does form.Sarif run of)))

pub returns-in_err-value-clause-does : goal.returns-in_err-value-clause-does
returns-in_err-value-clause-does g c =
    let run = view c.args.node.value.now in
    let text = c.args.results.now.text.now in
    let all = length c.args.places.now in
    let i = c.loop-index.index in
    goes_err (IsCutRun text all run) _ _ c.from_residual-in_err-value.result c.from_residual-in_err-value.ensures.1
    (λ s q. stops_any s q
    (does_as (λ ds h. cut_on text i all run c.args.drawing.now.choice ds (omega (arith, c.loop-index-test.true)) h) c.loop-index.invariant.1))

pub returns-clause-does : goal.returns-clause-does
returns-clause-does g c =
    let run = view c.args.node.value.now in
    let text = c.args.results.now.text.now in
    let i = c.loop-index.index in
    let end : i ≡ length c.args.places.now = omega arith in
    does_of (λ (n : ℕ). IsCutRun text n run) i (length c.args.places.now) end c.loop-index.invariant.1
