use Rattle.std.proofs.Common.{refl, subst, sym}
use Rattle.json_lines.specs.Field.{lent_text}
use Rattle.redraw_read.specs.Rustc.{IsShownBy}
use Rattle.redraw_read.proofs.rustc.shown_diagnostic.Goals as goal

pub returns-in_ok-as_rendered-in-Some-clause-shown : goal.returns-in_ok-as_rendered-in-Some-clause-shown
returns-in_ok-as_rendered-in-Some-clause-shown c =
    let told = c.in_ok-diagnostic.diagnostic in
    let shown = c.in_ok-as_rendered-in-Some.field-0 in (
      told,
      c.in_ok-diagnostic.ensures.is,
      subst (λ o. IsShownBy c.args.reader.now.puts_labels_first (lent_text o) told shown) (sym c.in-Some.is) c.in_ok-as_rendered-in-Some.ensures.shown,
    )

pub returns-in-None-clause-shown : goal.returns-in-None-clause-shown
returns-in-None-clause-shown c =
    let told = c.in_ok-diagnostic.diagnostic in
    (told, c.in_ok-diagnostic.ensures.is, subst (λ o. IsShownBy c.args.reader.now.puts_labels_first (lent_text o) told told) (sym c.in-None.is) refl)
