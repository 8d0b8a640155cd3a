use Rattle.std.proofs.Common.{◌≡◌, ◌↔◌, ℕ, List, subst, true}
use Rattle.std.specs.Str.Iter.{HasSubslice}
use Rattle.std.proofs.lemmas.Str.Pattern.{contains_text}
use Rattle.redraw_command.proofs.choice.is_in.Goals as goal

pub returns-then-span : goal.returns-then-span
returns-then-span c =
    let both = subst (λ (t : List ℕ). (c.contains.result ≡ true) ↔ HasSubslice t c.args.text.now) c.deref.ensures
    (contains_text c.contains.result _ _ c.contains.ensures.cases) in
    record { value = (λ held. (c.if-span.true, both.0 held), λ is. both.1 is.1) }
