use Rattle.std.proofs.Common.{inl, inr, map, subst, sym}
use Rattle.serde_json.specs.Data.{Data}
use Rattle.serde_json.specs.View.{view}
use Rattle.std.specs.Prelude.{List}
use Rattle.redraw_run.specs.Fates.{AreRuns, IsHandedOn, IsList}
use Rattle.redraw_run.specs.Logged.{AreFiles}
use Rattle.redraw_tools.specs.declared.log.LogForm.TheVariants as form
use Rattle.redraw_run.proofs.Doing.{goes_as}
use Rattle.redraw_run.proofs.input.Reading.list.Goals as goal

pub returns-in-Some : goal.returns-in-Some
returns-in-Some g c =
    let d = view c.args.value.now in
    let is = c.in-Some.ensures.files in
    record {
      does = goes_as (AreRuns form.Eslint (map view c.in-Some.files.now)) (IsList c.args.piece.now d) _ _ c.eslint_log.result
          (λ ds h. inr (subst AreFiles (sym is.0) is.1, subst (λ (l : List Data). AreRuns form.Eslint l c.args.drawing.now.choice ds) (sym is.0) h))
          c.eslint_log.ensures.does;
    }

pub returns-in-None : goal.returns-in-None
returns-in-None g c =
    let list = IsList c.args.piece.now (view c.args.value.now) in
    record {
      does = goes_as (IsHandedOn c.args.piece.now) list _ _ c.other.result (λ ds h. inl h) (c.other.ensures.does _);
    }
