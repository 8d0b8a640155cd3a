use Rattle.std.proofs.Common.{sym, subst, IfSome}
use Rattle.annotate_snippets.specs.Fits.{ElementFits, TitleFits}
use Rattle.std.proofs.lemmas.Result.{IfOk-weaker}
use Rattle.alloc_failures.proofs.Lists.{all_push, IfOk-both}
use Rattle.alloc_failures.proofs.reports.with_offer.Goals as goal

pub returns : goal.returns
returns c =
    record {
      fits = IfOk-weaker c.element.result _ _
          (λ g (title, elements). (
            subst (λ t. IfSome t TitleFits) (sym title) c.requires.group.0,
            all_push ElementFits _ _ _ elements c.requires.group.1 (subst ElementFits (sym c.from.ensures) c.in_ok-snippet.ensures.fits),
          ))
          (IfOk-both _ _ c.element.result c.element.ensures.title c.element.ensures.elements);
    }
