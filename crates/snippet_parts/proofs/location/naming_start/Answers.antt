use Rattle.snippet_parts.proofs.Common.{ℕ, Option, sym, ap, ◌∙◌, option_or, marked_starts, least}
use Rattle.snippet_parts.proofs.NamingLaws.{naming-border, naming-place}
use Rattle.snippet_parts.proofs.location.naming_start.Goals as goal

pub returns-in-Some : goal.returns-in-Some
returns-in-Some c =
    let is = ap (λ (o : Option ℕ). option_or o (least (marked_starts c.args.annotations.now))) (sym c.in-Some.is ∙ c.first_primary.ensures.value) in
    record { value = is; border = naming-border c.args.annotations.now _ is; named = naming-place c.args.annotations.now _ is }

pub returns-in-None : goal.returns-in-None
returns-in-None c =
    let is = c.first_marked.ensures.value ∙ ap (λ (o : Option ℕ). option_or o (least (marked_starts c.args.annotations.now)))
    (sym c.in-None.is ∙ c.first_primary.ensures.value) in
    record { value = is; border = naming-border c.args.annotations.now _ is; named = naming-place c.args.annotations.now _ is }
