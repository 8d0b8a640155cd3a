use Rattle.std.proofs.Common.{arith}
use Rattle.std.proofs.lemmas.Grind.{common_steps}
use Rattle.annotate_snippets.proofs.Common.{◌∙◌, sym, Patch}
use Rattle.annotate_snippets.proofs.FaultLemmas.{none_first, spans-faultless, overlap-first}
use Rattle.annotate_snippets.proofs.renderer.validate.first_of_suggestion.Goals as goal

pub check_patches-requires : goal.check_patches-requires
check_patches-requires c = record {
  spans = spans-faultless (λ (p : Patch). p.span) _ _ 0 _ _ (none_first _ (sym c.first_of_spans.ensures.value ∙ c.in_default.is));
}

pub returns-in-Some-check_patches : goal.returns-in-Some-check_patches
returns-in-Some-check_patches c = grind (arith, common_steps, none_first, overlap-first)
