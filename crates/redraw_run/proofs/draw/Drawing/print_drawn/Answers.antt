use Rattle.std.proofs.Common.{ap, refl, string_bytes, subst, ◌∙◌}
use Rattle.redraw_command.specs.declared.tally.Tally.{Tally}
use Rattle.redraw_run.specs.declared.look.ReportRenderer.{ReportRenderer}
use Rattle.redraw_run.specs.DrawnFinding.{IsCounted, IsUndrawn, ShowsFinding, ending_after}
use Rattle.redraw_run.specs.Fates.{IsShown}
use Rattle.redraw_run.proofs.Doing.{goes_err, stops_none}
use Rattle.redraw_run.proofs.Done.{at_err, at_ok, does_same, ended, goes_drawn}
use Rattle.redraw_run.proofs.Refusing.{left_by, printed_as}
use Rattle.redraw_run.proofs.Telling.{told_err}
use Rattle.redraw_run.proofs.draw.Drawing.print_drawn.Goals as goal

pub returns-in_err-placed-in-Ok-clause-does : goal.returns-in_err-placed-in-Ok-clause-does
returns-in_err-placed-in-Ok-clause-does g c = λ form files shows undrawn.
    let kept = c.in_err-placed-in-Ok.ensures.kept in
    goes_err (IsShown c.args.diagnostic.now) _ _ c.from_residual.result c.from_residual.ensures.1
    (λ s q. stops_none (IsShown c.args.diagnostic.now) s q (does_same refl refl kept.2 kept.0 kept.1))

pub returns-in_err-count-in-Ok-clause-does : goal.returns-in_err-count-in-Ok-clause-does
returns-in_err-count-in-Ok-clause-does g c = λ form files shows undrawn.
    let first = c.in_ok-placed-in-Ok.ensures.kept in
    let kept = c.in_err-count-in-Ok.ensures.kept in
    goes_err (IsShown c.args.diagnostic.now) _ _ c.from_residual-in_err-count-in-Ok.result c.from_residual-in_err-count-in-Ok.ensures.1
    (λ s q. stops_none (IsShown c.args.diagnostic.now) s q
    (does_same refl refl (c.in_err-count-in-Ok.ensures.uncounted ∙ first.2) (kept.0 ∙ first.0) (kept.1 ∙ first.1)))

pub returns-in_ok-count-in-Ok-clause-does : goal.returns-in_ok-count-in-Ok-clause-does
returns-in_ok-count-in-Ok-clause-does g c = λ form files shows undrawn.
    let first = c.in_ok-placed-in-Ok.ensures.kept in
    let kept = c.in_ok-count-in-Ok.ensures.kept in
    let r = c.args.self.now.renderer in
    let d = c.args.diagnostic.now in
    goes_drawn _ _ c.print.result d (string_bytes c.in_ok-placed-in-Ok.placed) _ files form
    record {
      inner = string_bytes c.in-Ok.text;
      shows = at_ok c.args.text c.in-Ok.text (λ t. ShowsFinding r files d (string_bytes t)) c.in-Ok.is shows;
      is = c.in_ok-placed-in-Ok.ensures.placed;
    }
    (subst (λ (t : Tally). IsCounted d t c.count.new.self.tally) first.2 c.in_ok-count-in-Ok.ensures.counted) (kept.0 ∙ first.0) (kept.1 ∙ first.1) refl
    (ended _ _ _ _ c.as_str.ensures.value
    (c.ending_of.ensures.value ∙ ap (λ (x : ReportRenderer). ending_after x.settings.short_message d.severity) (kept.0 ∙ first.0)))
    c.print.ensures.writes

pub returns-in_ok-count-in-Ok-clause-drawn : goal.returns-in_ok-count-in-Ok-clause-drawn
returns-in_ok-count-in-Ok-clause-drawn g c =
    let first = c.in_ok-placed-in-Ok.ensures.kept in
    let kept = c.in_ok-count-in-Ok.ensures.kept in
    let d = c.args.diagnostic.now in
    printed_as c.print.result c.args.text c.in-Ok.text c.args.self.now.renderer d (string_bytes c.in_ok-placed-in-Ok.placed) _ _ _ c.in-Ok.is
    c.in_ok-placed-in-Ok.ensures.placed
    (ended _ _ _ _ c.as_str.ensures.value
    (c.ending_of.ensures.value ∙ ap (λ (x : ReportRenderer). ending_after x.settings.short_message d.severity) (kept.0 ∙ first.0)))
    c.print.ensures.printed

pub returns-in-Err-clause-does : goal.returns-in-Err-clause-does
returns-in-Err-clause-does g c = λ form files shows undrawn.
    let r = c.args.self.now.renderer in
    c.refuse.ensures.does form files (at_err c.args.text c.in-Err.error (IsUndrawn r files c.args.diagnostic.now) c.in-Err.is undrawn) _

pub returns-in-Err-clause-left_out : goal.returns-in-Err-clause-left_out
returns-in-Err-clause-left_out g c = left_by c.refuse.result c.args.text c.in-Err.error _ _ _ c.in-Err.is refl c.refuse.ensures.left_out

pub returns-in-Err-clause-told : goal.returns-in-Err-clause-told
returns-in-Err-clause-told g c = told_err c.refuse.result c.args.text c.in-Err.error _ c.in-Err.is c.refuse.ensures.told
