use Rattle.std.proofs.Common.{rules, arith, ap, sym, subst, ◌∙◌, ◌++◌, All, IfSome}
use Rattle.std.specs.Cow.{cow_str_bytes}
use Rattle.annotate_snippets.specs.Fits.{PatchFits, TextFits}
use Rattle.std.proofs.lemmas.Result.{IfOk-weaker}
use Rattle.snippet_model.specs.Source.{SourceSeen}
use Rattle.alloc_failures.proofs.Lists.{array-drained, IfOk-both}
use Rattle.alloc_failures.proofs.reports.both_patches.Goals as goal

pub returns : goal.returns
returns c =
    record {
      fits = IfOk-weaker c.patches.result _ _
          (λ s (kept, (it, xs, gives, drains, items)). (
            subst (λ (s : SourceSeen). TextFits (cow_str_bytes s.text)) (sym (kept.source ∙ c.source.ensures.source)) (omega arith),
            subst (λ p. IfSome p (λ t. TextFits (cow_str_bytes t))) (sym (kept.path ∙ c.source.ensures.path)) tt,
            subst (All PatchFits) (sym (items ∙ ap (λ l. l ++ xs) c.source.ensures.markers ∙ array-drained xs it drains ∙ gives.0)) (search rules),
          ))
          (IfOk-both _ _ c.patches.result c.patches.ensures.settings c.patches.ensures.patches);
    }
