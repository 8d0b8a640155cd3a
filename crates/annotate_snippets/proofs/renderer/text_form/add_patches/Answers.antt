use Rattle.std.proofs.lemmas.Grind.{common_steps}
use Rattle.std.proofs.Common.{arith}
use Rattle.annotate_snippets.proofs.Common.{IfSome, Option, subst, IsPrepared, PreparedSuggestion}
use Rattle.annotate_snippets.proofs.renderer.text_form.add_patches.Goals as goal

pub add_suggestion-requires : goal.add_suggestion-requires
add_suggestion-requires c =
    record { prepared = subst (λ (t : Option PreparedSuggestion). IfSome t IsPrepared) c.in-Some.is c.in_ok-suggestion.ensures.prepared }

pub returns-in-Some : goal.returns-in-Some
returns-in-Some c = grind (arith, common_steps)

pub returns-in-None : goal.returns-in-None
returns-in-None c = grind (arith, c.in-None.is, c.requires.some, c.in_ok-suggestion.ensures.none.0)
