use Rattle.std.proofs.Common.{arith}
use Rattle.annotate_snippets.proofs.Common.{◌≡◌, ◌∙◌, None, sym, refusal_in}
use Rattle.annotate_snippets.proofs.AsSetLemmas.{drawable-set}
use Rattle.annotate_snippets.proofs.AsSetSteps.{set-remade, unset}
use Rattle.annotate_snippets.proofs.renderer.Renderer.shown.Goals as goal

pub returns-then-shows_as_given-clause-shown : goal.returns-then-shows_as_given-clause-shown
returns-then-shows_as_given-clause-shown c =
    let none : refusal_in c.args.form c.args.groups.now ≡ None = sym c.first_refusal.ensures.value ∙ c.in_default.is in
    drawable-set c.args.form c.args.self.now c.args.groups.now c.args.groups.now
    (unset c.args.form c.args.self.now c.args.groups.now (sym c.shows_as_given.ensures.value ∙ c.if-shows_as_given.true)) c.requires.fits none

pub remade-requires : goal.remade-requires
remade-requires c = grind (arith, c.args.form, c.args.groups.now, c.first_refusal.ensures.value, c.in_default.is, c.requires.fits)

pub returns-clause-shown : goal.returns-clause-shown
returns-clause-shown c =
    let none : refusal_in c.args.form c.args.groups.now ≡ None = sym c.first_refusal.ensures.value ∙ c.in_default.is in
    let made = c.in_ok-made.made.items in
    drawable-set c.args.form c.args.self.now c.args.groups.now made
    (set-remade _ _ _ made (sym c.shows_as_given.ensures.value ∙ c.if-shows_as_given.false) c.in_ok-made.ensures.set) c.in_ok-made.ensures.fits none
