use Rattle.annotate_snippets.proofs.Common.{◌∙◌, ap, sym, is_drawn}
use Rattle.annotate_snippets.proofs.FormSteps.{has_patches}
use Rattle.annotate_snippets.proofs.renderer.text_form.add_element.Goals as goal

pub add_patches-requires-clause-some : goal.add_patches-requires-clause-some
add_patches-requires-clause-some c = has_patches _ (sym (ap is_drawn c.in-Suggestion.is) ∙ c.requires.drawn)
