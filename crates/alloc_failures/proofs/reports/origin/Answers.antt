use Rattle.std.proofs.Common.{rules, ap, sym, subst, ◌∙◌, ◌++◌, All, IfSome}
use Rattle.annotate_snippets.specs.Fits.{ElementFits, TitleFits}
use Rattle.std.proofs.lemmas.Result.{IfOk-weaker}
use Rattle.alloc_failures.proofs.Lists.{array-drained, IfOk-both}
use Rattle.alloc_failures.proofs.reports.origin.Goals as goal

pub returns : goal.returns
returns c =
    record {
      fits = IfOk-weaker c.elements.result _ _
          (λ g (title, (it, xs, gives, drains, items)). (
            subst (λ t. IfSome t TitleFits) (sym (title ∙ c.with_title.ensures.title)) (search rules),
            subst (All ElementFits) (sym (items ∙ ap (λ l. l ++ xs) c.with_title.ensures.elements ∙ array-drained xs it drains ∙ gives.0)) (search rules),
          ))
          (IfOk-both _ _ c.elements.result c.elements.ensures.title c.elements.ensures.elements);
    }
