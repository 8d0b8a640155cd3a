use Rattle.std.proofs.Common.{None, Some}
use Rattle.serde_json.specs.View.{view}
use Rattle.redraw_run.specs.Fates.{IsKnown, IsUnknown, IsValue}
use Rattle.redraw_run.proofs.Doing.{goes_as}
use Rattle.redraw_run.proofs.input.Reading.value.Goals as goal

pub returns-in-Some : goal.returns-in-Some
returns-in-Some g c =
    record {
      does = goes_as (IsKnown c.in-Some.kind (view c.args.value.now)) (IsValue c.args.piece.now (view c.args.value.now)) _ _ c.known.result
          (λ ds h. (Some c.in-Some.kind, c.in-Some.ensures.kind, h)) c.known.ensures.does;
    }

pub returns-in-None : goal.returns-in-None
returns-in-None g c =
    record {
      does = goes_as (IsUnknown c.args.piece.now) (IsValue c.args.piece.now (view c.args.value.now)) _ _ c.unknown.result
          (λ ds h. (None, c.in-None.ensures.kind, h)) c.unknown.ensures.does;
    }
