use Rattle.std.proofs.Common.{◌∙◌, ap, option_map, sym}
use Rattle.redraw_tools.specs.Found.{found_view}
use Rattle.redraw_tools.specs.Told.{reported}
use Rattle.redraw_run.proofs.lines.at_hand.Goals as goal

pub returns-clause-told : goal.returns-clause-told
returns-clause-told g c =
    let lines = c.args.lines.now in (
      c.in-Some.diagnostic,
      (λ utf8. ap (option_map found_view) (sym c.in-Some.is) ∙ c.in_ok-diagnostic.ensures.value utf8 ∙ ap (λ u. reported u lines) c.unwrap_or-unit.ensures),
      c.mark_words.ensures.marked,
    )
