use Rattle.std.proofs.Common.{◌∙◌, inl, inr, refl}
use Rattle.serde_json.specs.View.{view}
use Rattle.redraw_run.specs.Fates.{AreMessages, IsFound, IsResult, IsTakingRead}
use Rattle.redraw_run.proofs.Doing.{does_as, does_then, goes_as, goes_err, goes_then, stops_any, stops_none}
use Rattle.redraw_run.proofs.Done.{does_same, does_tell_all}
use Rattle.redraw_run.proofs.Fated.{found_some, is_finding, result_part}
use Rattle.redraw_run.proofs.sarif.draw_result.Goals as goal

pub returns-in_err-found : goal.returns-in_err-found
returns-in_err-found g c =
    let result = view c.args.reported.now.value.now in
    record {
      does = λ form d of. goes_err (IsResult form d result) _ _ c.from_residual.result c.from_residual.ensures.1
          (λ s q. stops_none (IsResult form d result) s q (does_same refl refl refl refl refl));
    }

pub returns-in_err-tell_all : goal.returns-in_err-tell_all
returns-in_err-tell_all g c =
    let result = view c.args.reported.now.value.now in
    record {
      does = λ form d of. goes_err (IsResult form d result) _ _ c.from_residual-in_err-tell_all.result c.from_residual-in_err-tell_all.ensures.1
          (λ s q. stops_any s (q ∙ c.in_err-tell_all.ensures.memory)
          (does_as (result_part form d result c.args.drawing.now.choice) (does_tell_all c.in_err-tell_all.ensures.told refl refl refl refl)));
    }

pub returns-in-Some : goal.returns-in-Some
returns-in-Some g c =
    let result = view c.args.reported.now.value.now in
    let read = c.in-Some.diagnostic in
    record {
      does = λ form d of.
          let is = is_finding form c.args.drawing.now.choice.columns d result c.args.run.now _ read c.in-Some.is of c.in_ok-found.ensures.is in
          goes_then AreMessages (IsFound form d result) _ _ _ c.take.result (found_some form d result)
          (does_tell_all c.in_ok-tell_all.ensures.told refl refl refl refl)
          (goes_as (IsTakingRead read) (IsFound form d result) _ _ c.take.result (λ ds h. inr (read, is, h)) c.take.ensures.does);
    }

pub returns : goal.returns
returns g c =
    record {
      does = λ form d of. does_then (does_tell_all c.in_ok-tell_all.ensures.told refl refl refl refl)
          (does_as (λ ds h. inl h) (c.leave_out.ensures.does _ _));
    }
