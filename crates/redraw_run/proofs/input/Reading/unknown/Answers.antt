use Rattle.std.proofs.Common.{inl, inr}
use Rattle.redraw_run.specs.Fates.{IsHandedOn, IsUnknown}
use Rattle.redraw_run.proofs.Doing.{does_as, goes_as}
use Rattle.redraw_run.proofs.input.Reading.unknown.Goals as goal

pub returns-then-self : goal.returns-then-self
returns-then-self g c =
    record {
      does = goes_as (IsHandedOn c.args.piece.now) (IsUnknown c.args.piece.now) _ _ c.hand_on.result (λ ds h. inr h) (c.hand_on.ensures.does _);
    }

pub returns-else-self : goal.returns-else-self
returns-else-self g c = record { does = does_as (λ ds h. inl h) (c.wrong.ensures.does _) }
