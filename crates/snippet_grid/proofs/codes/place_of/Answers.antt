use Rattle.snippet_grid.proofs.Common.{◌∙◌, sym, ap, inl, inr}
use Rattle.snippet_style.specs.Stylesheet as spec
use Rattle.snippet_grid.proofs.codes.place_of.Goals as goal

pub returns-in-UnderlinePrimary-clause-place : goal.returns-in-UnderlinePrimary-clause-place
returns-in-UnderlinePrimary-clause-place c =
    λ sheet d. elim c.in-UnderlinePrimary.is [
      | inl underline ↦ c.level_place.ensures.place sheet d ∙ ap (spec.style_of sheet c.args.level) (sym underline)
      | inr label ↦ c.level_place.ensures.place sheet d ∙ ap (spec.style_of sheet c.args.level) (sym label)
    ]

pub returns-in-Level-clause-place : goal.returns-in-Level-clause-place
returns-in-Level-clause-place c =
    λ sheet d. c.level_place-in-Level.ensures.place sheet d ∙ ap (spec.style_of sheet c.args.level) (sym c.in-Level.is)
