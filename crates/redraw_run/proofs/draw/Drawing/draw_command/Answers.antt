use Rattle.std.proofs.Common.{◌≡◌, [], ◌∷◌, ◌++◌, ◌∙◌, List, Some, ap, inl, inr, refl, string_bytes, subst, sym, ℕ}
use Rattle.std.specs.Option.{option_map}
use Rattle.redraw_command.specs.Workflow.{command}
use Rattle.redraw_run.specs.Fates.{IsWritten}
use Rattle.redraw_run.proofs.Doing.{does_as, does_nothing, goes_err, stops_none}
use Rattle.redraw_run.proofs.Done.{does_same, goes_commanded, on_ok}
use Rattle.output_stream.specs.Standing.{Adds, known}
use Rattle.redraw_run.proofs.draw.Drawing.draw_command.Goals as goal

pub returns-in_ok-count-in-Some-clause-draws : goal.returns-in_ok-count-in-Some-clause-draws
returns-in_ok-count-in-Some-clause-draws g c =
    let made : command c.args.diagnostic.now ≡ Some (string_bytes c.in-Some.line) =
    sym c.in_ok-line.ensures.value ∙ ap (option_map string_bytes) c.in-Some.is in
    on_ok c.print.result
    (λ written. inl record {
      line = string_bytes c.in-Some.line;
      is = made;
      written = subst (λ (l : List ℕ). Adds (known g.W.Write.contents c.args.out.now) (known g.W.Write.contents c.print.new.out)
          (l ++ 10 ∷ [])) c.as_str.ensures.value
          written;
      counted = c.in_ok-count-in-Some.ensures.counted;
    })
    c.print.ensures.printed

pub returns-in_ok-count-in-Some-clause-does : goal.returns-in_ok-count-in-Some-clause-does
returns-in_ok-count-in-Some-clause-does g c = λ form err.
    let made : command c.args.diagnostic.now ≡ Some (string_bytes c.in-Some.line) =
    sym c.in_ok-line.ensures.value ∙ ap (option_map string_bytes) c.in-Some.is in
    goes_commanded _ _ c.print.result c.args.diagnostic.now (string_bytes c.in-Some.line) _ form made c.in_ok-count-in-Some.ensures.counted
    c.in_ok-count-in-Some.ensures.kept.0 c.in_ok-count-in-Some.ensures.kept.1 refl (ap (λ l. l ++ 10 ∷ []) c.as_str.ensures.value) c.print.ensures.writes

pub returns-in-None-clause-draws : goal.returns-in-None-clause-draws
returns-in-None-clause-draws g c =
    inr (sym c.in_ok-line.ensures.value ∙ ap (option_map string_bytes) c.in-None.is, refl, refl)

pub returns-in_err-count-in-Some-clause-does : goal.returns-in_err-count-in-Some-clause-does
returns-in_err-count-in-Some-clause-does g c = λ form err.
    let kept = c.in_err-count-in-Some.ensures.kept in
    goes_err (IsWritten c.args.diagnostic.now) _ _ c.from_residual-in_err-count-in-Some.result c.from_residual-in_err-count-in-Some.ensures.1
    (λ s q. stops_none (IsWritten c.args.diagnostic.now) s q (does_same refl refl c.in_err-count-in-Some.ensures.uncounted kept.0 kept.1))

pub returns-in-None-clause-does : goal.returns-in-None-clause-does
returns-in-None-clause-does g c = λ form err.
    let none = sym c.in_ok-line.ensures.value ∙ ap (option_map string_bytes) c.in-None.is in
    does_as (λ ds h. inr (none, h)) (does_same refl refl refl refl refl)

pub returns-in_err-line-clause-does : goal.returns-in_err-line-clause-does
returns-in_err-line-clause-does g c = λ form err.
    goes_err (IsWritten c.args.diagnostic.now) _ _ c.from_residual.result c.from_residual.ensures.1
    (λ s q. stops_none (IsWritten c.args.diagnostic.now) s q (does_nothing _))
