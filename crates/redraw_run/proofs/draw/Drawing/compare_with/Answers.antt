use Rattle.std.proofs.Common.{Bool, ap, refl, string_bytes, ◌∙◌}
use Rattle.redraw_command.specs.Tally.{with_compared}
use Rattle.redraw_command.specs.declared.tally.Tally.{Tally}
use Rattle.redraw_run.specs.Fates.{IsCompared}
use Rattle.redraw_run.proofs.Doing.{goes_err, stops_none}
use Rattle.redraw_run.proofs.Done.{does_same, goes_compared}
use Rattle.redraw_run.proofs.draw.Drawing.compare_with.Goals as goal

pub returns-in_err-is_same-clause-does : goal.returns-in_err-is_same-clause-does
returns-in_err-is_same-clause-does g c = λ form err.
    let d = c.args.diagnostic.now in
    let kept = c.is_own_text.ensures.kept in
    goes_err (IsCompared d) _ _ c.from_residual.result c.from_residual.ensures.1
    (λ s q. stops_none (IsCompared d) s q (does_same refl refl kept.2 kept.0 kept.1))

pub returns-in_err-shown-clause-does : goal.returns-in_err-shown-clause-does
returns-in_err-shown-clause-does g c = λ form err.
    let d = c.args.diagnostic.now in
    let kept = c.is_own_text.ensures.kept in
    goes_err (IsCompared d) _ _ c.from_residual-in_err-shown.result c.from_residual-in_err-shown.ensures.1
    (λ s q. stops_none (IsCompared d) s q (does_same refl refl kept.2 kept.0 kept.1))

pub returns-clause-does : goal.returns-clause-does
returns-clause-does g c = λ form err.
    let d = c.args.diagnostic.now in
    let same : Bool = c.in_ok-is_same.is_same in
    let kept = c.is_own_text.ensures.kept in
    goes_compared _ _ c.pass.result d same (string_bytes c.in_ok-shown.shown) _ form c.in_ok-is_same.ensures.is
    (c.with_compared-self.ensures.compared ∙ ap (λ (t : Tally). with_compared t same) kept.2) kept.0 kept.1 refl c.as_bytes.ensures.value c.pass.ensures.writes
