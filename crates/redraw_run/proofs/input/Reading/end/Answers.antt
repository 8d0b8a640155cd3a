use Rattle.std.proofs.Common.{inl, inr, refl}
use Rattle.redraw_run.proofs.Doing.{does_as, does_nothing}
use Rattle.redraw_run.proofs.Done.{does_told}
use Rattle.redraw_run.proofs.input.Reading.end.Goals as goal

pub returns-then-is_unknown-clause-does : goal.returns-then-is_unknown-clause-does
returns-then-is_unknown-clause-does g c = λ out. does_as (λ ds h. inr h) (does_told c.tell.ensures.told refl refl refl refl)

pub returns-else-is_unknown-clause-does : goal.returns-else-is_unknown-clause-does
returns-else-is_unknown-clause-does g c = λ out. does_as (λ ds h. inl h) (does_nothing _)
