use Rattle.annotate_snippets.proofs.Common.{ap, sym, ◌∙◌, option_copied, slice_get}
use Rattle.annotate_snippets.proofs.PlaceLemmas.{first-is_some, patch_place-first, first-span}
use Rattle.annotate_snippets.proofs.renderer.suggestions.first_place.Goals as goal

pub returns-in_default : goal.returns-in_default
returns-in_default c =
    absurd (first-is_some c.args.suggestion.now c.requires.prepared
    (ap (λ xs. slice_get xs 0) (sym c.deref.ensures.value) ∙ sym c.first.ensures.value ∙ ap option_copied c.in_default.is))

pub span_to_locations-requires : goal.span_to_locations-requires
span_to_locations-requires c = record {
  span = first-span _ _ c.requires.prepared (ap (λ xs. slice_get xs 0) (sym c.deref.ensures.value) ∙ sym c.first.ensures.value ∙ ap option_copied c.in-Some.is);
}

pub returns : goal.returns
returns c = record {
  value = patch_place-first c.args.suggestion.now c.in-Some.patch.now c.span_to_locations.result c.requires.prepared
      (ap (λ xs. slice_get xs 0) (sym c.deref.ensures.value) ∙ sym c.first.ensures.value ∙ ap option_copied c.in-Some.is) c.span_to_locations.ensures.value;
}
