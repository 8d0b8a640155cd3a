use Rattle.std.proofs.Common.{ap, sym, ◌∙◌}
use Rattle.redraw_run.specs.Inputs.{asked_names}
use Rattle.redraw_run.proofs.Named.{given_none, given_some}
use Rattle.redraw_run.proofs.run.asked_names.Goals as goal

pub returns-then-is_empty : goal.returns-then-is_empty
returns-then-is_empty c =
    record { value = given_none c.in-Some.names.now (sym c.if-is_empty.true ∙ c.is_empty.ensures) ∙ ap asked_names (sym c.in-Some.is) }

pub returns-else-is_empty : goal.returns-else-is_empty
returns-else-is_empty c =
    record { value = given_some c.in-Some.names.now (sym c.if-is_empty.false ∙ c.is_empty.ensures) ∙ ap asked_names (sym c.in-Some.is) }
