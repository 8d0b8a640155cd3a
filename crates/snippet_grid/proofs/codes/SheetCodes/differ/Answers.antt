use Rattle.snippet_grid.proofs.Common.{◌∙◌, sym, differs_told, same_told}
use Rattle.snippet_grid.proofs.codes.SheetCodes.differ.Goals as goal

pub returns-else-is_plain-2-clause-yes : goal.returns-else-is_plain-2-clause-yes
returns-else-is_plain-2-clause-yes c = λ yes same.
    differs_told _ _ (sym yes ∙ c.ne.ensures) (c.style_at.ensures.value ∙ same ∙ sym c.style_at-else-is_plain-2.ensures.value)

pub returns-else-is_plain-2-clause-no : goal.returns-else-is_plain-2-clause-no
returns-else-is_plain-2-clause-no c = λ no.
    sym c.style_at.ensures.value ∙ same_told _ _ (sym no ∙ c.ne.ensures) ∙ c.style_at-else-is_plain-2.ensures.value
