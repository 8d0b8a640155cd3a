use Rattle.std.proofs.lemmas.Grind.{common_steps}
use Rattle.annotate_snippets.proofs.Common.{◌≡◌, ◌∙◌, List, ap, subst, sym, IfOk-weaker, AllZip, Group, IsGroupAsSet, adds_context, arith}
use Rattle.annotate_snippets.proofs.AsSetLemmas.{around-keeps, fed-keeps, mask-keeps}
use Rattle.annotate_snippets.proofs.ContextShown.{groups-sound}
use Rattle.annotate_snippets.proofs.RemadeLemmas.{Keeps, keeps-then}
use Rattle.annotate_snippets.proofs.renderer.Renderer.remade.Goals as goal

pub with_context-requires : goal.with_context-requires
with_context-requires c =
    let r = c.args.self.now in
    let groups : List Group = c.args.groups.now in
    let fed : List Group = c.in_ok-fed.fed.items in
    let masked : List Group = c.in_ok-masked.masked.items in
    let same : fed ≡ c.in_ok-made.made.items = ap (λ v. v.items) c.in_ok-fed.ensures.same in
    let pairs : AllZip (IsGroupAsSet r.show_line_feeds) groups fed =
    subst (λ (gs : List Group). AllZip (IsGroupAsSet r.show_line_feeds) groups gs) (sym same) c.in_ok-made.ensures.set in
    let kept : Keeps groups masked =
    keeps-then groups fed masked (fed-keeps r.show_line_feeds groups fed pairs) (mask-keeps r.mask_controls fed masked c.in_ok-masked.ensures.made) in
    record { sound = groups-sound masked c.in_ok-masked.ensures.fits (kept.fault ∙ c.requires.faultless); fits = c.in_ok-masked.ensures.fits }

pub with_wrapped-requires : goal.with_wrapped-requires
with_wrapped-requires c =
    let r = c.args.self.now in
    let groups : List Group = c.args.groups.now in
    let fed : List Group = c.in_ok-fed.fed.items in
    let masked : List Group = c.in_ok-masked.masked.items in
    let same : fed ≡ c.in_ok-made.made.items = ap (λ v. v.items) c.in_ok-fed.ensures.same in
    let pairs : AllZip (IsGroupAsSet r.show_line_feeds) groups fed =
    subst (λ (gs : List Group). AllZip (IsGroupAsSet r.show_line_feeds) groups gs) (sym same) c.in_ok-made.ensures.set in
    let kept : Keeps groups masked =
    keeps-then groups fed masked (fed-keeps r.show_line_feeds groups fed pairs) (mask-keeps r.mask_controls fed masked c.in_ok-masked.ensures.made) in
    let around : Keeps masked c.in_ok-around.around.items =
    around-keeps (adds_context c.args.form r) r.context_before r.context_after masked c.in_ok-around.around.items c.in_ok-around.ensures.made in
    record { fits = c.in_ok-around.ensures.fits; faultless = around.fault ∙ kept.fault ∙ c.requires.faultless }

pub returns-clause-set : goal.returns-clause-set
returns-clause-set c = grind (arith, common_steps, IfOk-weaker)
