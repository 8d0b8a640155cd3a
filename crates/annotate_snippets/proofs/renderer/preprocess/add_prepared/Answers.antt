use Rattle.annotate_snippets.proofs.Common.{IfSome, Option, subst, All-push, All-same, IsPrepared, PreparedSuggestion, IsElementPrepared}
use Rattle.annotate_snippets.specs.declared.renderer.preprocess.PreparedElement.TheVariants.{Suggestion}
use Rattle.annotate_snippets.proofs.renderer.preprocess.add_prepared.Goals as goal

pub returns-in_ok-push-in-Suggestion-clause-prepared : goal.returns-in_ok-push-in-Suggestion-clause-prepared
returns-in_ok-push-in-Suggestion-clause-prepared c = λ before.
    let old = c.args.prepared.now.items in
    let made = c.in-Some.suggestion in
    let prepared = subst (λ (s : Option PreparedSuggestion). IfSome s IsPrepared) c.in-Some.is c.in_ok-suggestion-in-Suggestion.ensures.prepared in
    All-same IsElementPrepared _ _ c.in_ok-push-in-Suggestion.ensures.items (All-push IsElementPrepared old (Suggestion made) before prepared)
