use Rattle.std.proofs.Common.{ap, inl, inr, refl, subst, sym, ◌∙◌, IfSome, Option}
use Rattle.std.specs.Prelude.{unwrap_or}
use Rattle.redraw_report.specs.declared.diagnostic.Diagnostic.{Diagnostic}
use Rattle.redraw_report.specs.declared.diagnostic.Unit.TheVariants.{Bytes}
use Rattle.redraw_run.specs.Marked.{IsToldIn}
use Rattle.redraw_command.specs.declared.choice.Choice.{Choice}
use Rattle.redraw_run.specs.Fates.{IsFindingOrText, IsHandedOn, IsTakingRead}
use Rattle.redraw_run.proofs.Doing.{goes_after, goes_as, goes_err, stops_none}
use Rattle.redraw_run.proofs.Done.{does_same}
use Rattle.redraw_run.proofs.lines.draw_lines.Goals as goal

pub returns-then-not-drawing : goal.returns-then-not-drawing
returns-then-not-drawing g c =
    let lines = c.args.lines.now in
    record { does = goes_as (IsHandedOn lines) (IsFindingOrText lines) _ _ c.hand_on.result (λ ds h. inl h) (c.hand_on.ensures.does _) }

pub returns-in_err-found : goal.returns-in_err-found
returns-in_err-found g c =
    let lines = c.args.lines.now in
    let kept = c.in_err-found.ensures.kept in
    record {
      does = goes_err (IsFindingOrText lines) _ _ c.from_residual.result c.from_residual.ensures.1
          (λ s q. stops_none (IsFindingOrText lines) s q (does_same refl refl kept.2 kept.0 kept.1));
    }

pub returns-in-Some : goal.returns-in-Some
returns-in-Some g c =
    let lines = c.args.lines.now in
    let kept = c.in_ok-found.ensures.kept in
    let found = c.in-Some.diagnostic in
    let asked = ap (λ (choice : Choice). choice.reads_lines) kept.1 ∙ c.if-not-drawing.false in
    let told0 : IsToldIn (unwrap_or c.args.drawing.now.choice.columns Bytes) lines found =
    subst (λ (o : Option Diagnostic). IfSome o (IsToldIn (unwrap_or c.args.drawing.now.choice.columns Bytes) lines)) c.in-Some.is
    c.in_ok-found.ensures.told in
    let told = subst (λ (choice : Choice). IsToldIn (unwrap_or choice.columns Bytes) lines found) (sym kept.1) told0 in
    record {
      does = goes_after (IsFindingOrText lines) _ _ _ c.take.result (does_same refl refl kept.2 kept.0 kept.1)
          (goes_as (IsTakingRead found) (IsFindingOrText lines) _ _ c.take.result (λ ds h. inr (asked, (found, told, h))) c.take.ensures.does);
    }

pub returns-in-None : goal.returns-in-None
returns-in-None g c =
    let lines = c.args.lines.now in
    let kept = c.in_ok-found.ensures.kept in
    record {
      does = goes_after (IsFindingOrText lines) _ _ _ c.hand_on-in-None.result (does_same refl refl kept.2 kept.0 kept.1)
          (goes_as (IsHandedOn lines) (IsFindingOrText lines) _ _ c.hand_on-in-None.result (λ ds h. inl h) (c.hand_on-in-None.ensures.does _));
    }
