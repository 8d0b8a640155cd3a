use Rattle.std.proofs.Common.{inl, inr, refl}
use Rattle.redraw_run.specs.Fates.{IsChosen, IsTaking}
use Rattle.redraw_run.proofs.Doing.{does_as, goes_as}
use Rattle.redraw_run.proofs.Done.{does_same}
use Rattle.redraw_run.proofs.Fated.{never_true}
use Rattle.redraw_run.proofs.draw.Drawing.draw_chosen.Goals as goal

pub returns-then-takes : goal.returns-then-takes
returns-then-takes g c =
    let d = c.args.diagnostic.now in
    record {
      does = goes_as (IsChosen d) (IsTaking d) _ _ c.draw_once.result (λ ds h. inr (c.if-takes.ensures.taken.0 refl, h)) c.draw_once.ensures.does;
    }

pub returns-else-takes : goal.returns-else-takes
returns-else-takes g c =
    record { does = does_as (λ ds h. inl ((λ t. never_true (c.if-takes.ensures.taken.1 t)), h)) (does_same refl refl refl refl refl) }
