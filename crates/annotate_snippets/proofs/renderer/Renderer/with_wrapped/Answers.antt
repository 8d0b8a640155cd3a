use Rattle.std.proofs.Common.{arith}
use Rattle.annotate_snippets.proofs.Common.{◌≡◌, ◌∙◌, ℕ, Bool, List, ap, subst, sym, IfOk-weaker, AllZip, Group, IsGroupWrapped, IsStep, wraps}
use Rattle.annotate_snippets.proofs.Common.{gutter_of_report}
use Rattle.annotate_snippets.proofs.FaultLemmas.{groups-drawable}
use Rattle.annotate_snippets.proofs.WrapShown.{groups-wrappable}
use Rattle.annotate_snippets.proofs.renderer.Renderer.with_wrapped.Goals as goal

pub gutter_for-requires : goal.gutter_for-requires
gutter_for-requires c = grind (arith, groups-drawable, c.deref.ensures.value, c.args.groups.items, c.requires.fits, c.requires.faultless)

pub groups_remade-requires : goal.groups_remade-requires
groups_remade-requires c = record { taken = groups-wrappable c.in_ok-gutter.gutter c.args.groups.items c.requires.fits c.in_ok-gutter.ensures.small }

pub returns-in_ok-made-clause-made : goal.returns-in_ok-made-clause-made
returns-in_ok-made-clause-made c =
    let r = c.args.self.now in
    let given : List Group = c.args.groups.items in
    let Wraps : ℕ → Group → Group → Type 0 = IsGroupWrapped r.term_width in
    let beside : c.in_ok-gutter.gutter ≡ gutter_of_report r given = cc (c.in_ok-gutter.ensures.value, c.deref.ensures.value) in
    let pairs : AllZip (Wraps (gutter_of_report r given)) given c.in_ok-made.made.items =
    subst (λ (n : ℕ). AllZip (Wraps n) given c.in_ok-made.made.items) beside c.in_ok-made.ensures.made in
    let step : IsStep (wraps c.args.form r) (Wraps (gutter_of_report r given)) given c.in_ok-made.made.items =
    subst (λ (asked : Bool). IsStep asked (Wraps (gutter_of_report r given)) given c.in_ok-made.made.items)
    (sym c.if-wraps.true ∙ c.wraps.ensures.value) pairs in
    IfOk-weaker c.fitting.result (λ same. same ≡ c.in_ok-made.made) (λ made. IsStep (wraps c.args.form r) (Wraps (gutter_of_report r given)) given made.items)
    (λ same is. subst (λ (gs : List Group). IsStep (wraps c.args.form r) (Wraps (gutter_of_report r given)) given gs) (sym (ap (λ v. v.items) is)) step)
    c.fitting.ensures.same
