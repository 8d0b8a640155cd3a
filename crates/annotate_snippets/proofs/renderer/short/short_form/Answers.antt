use Rattle.annotate_snippets.proofs.Common.{IfSome, subst, sym, AnnotationFits, SnippetFits, IsDrawable}
use Rattle.annotate_snippets.proofs.ShortLemmas.{first_cause-drawable, first_cause-fits}
use Rattle.annotate_snippets.proofs.renderer.short.short_form.Goals as goal

pub place_before-requires-clause-drawable : goal.place_before-requires-clause-drawable
place_before-requires-clause-drawable c =
    subst (λ cause. IfSome cause IsDrawable) (sym c.first_cause-cause.ensures.value) (first_cause-drawable c.args.group.now c.requires.drawable)

pub place_before-requires-clause-fits : goal.place_before-requires-clause-fits
place_before-requires-clause-fits c =
    subst (λ cause. IfSome cause (SnippetFits AnnotationFits)) (sym c.first_cause-cause.ensures.value) (first_cause-fits c.args.group.now c.requires.drawable)
