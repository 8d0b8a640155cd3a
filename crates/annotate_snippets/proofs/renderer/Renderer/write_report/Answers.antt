use Rattle.std.proofs.Common.{arith}
use Rattle.annotate_snippets.proofs.Common.{List, rules, subst, sym, on_err_weaker, on_ok_weaker, Group, IsAsSet, held}
use Rattle.annotate_snippets.proofs.AsSetLemmas.{written-laws, written-part, written-shows}
use Rattle.annotate_snippets.proofs.renderer.Renderer.write_report.Goals as goal

pub write_form-requires : goal.write_form-requires
write_form-requires g c =
    grind (arith, c.deref.ensures.value, c.in_ok-shown.ensures.shown.drawable, c.form_of-form.result, c.in_ok-shown.ensures.shown.titled, c.requires.sheet)

pub returns : goal.returns
returns g c =
    let r = c.args.self.now in
    let groups : List Group = c.args.groups.now in
    let shown : List Group = c.deref.result.now in
    let form = c.form_of-form.result in
    let set : IsAsSet form r groups shown = subst (λ (gs : List Group). IsAsSet form r groups gs) (sym c.deref.ensures.value) c.in_ok-shown.ensures.shown.set in
    record {
      same_reference = search rules;
      told = search rules;
      refused = search rules;
      renders = search rules;
      whole = on_ok_weaker c.write_form.result (written-shows form r groups shown c.form_of-form.ensures.value set _ _) c.write_form.ensures.whole;
      laws = on_ok_weaker c.write_form.result (written-laws form r groups shown c.form_of-form.ensures.value set _ _) c.write_form.ensures.whole;
      part = on_err_weaker _ (written-part form r groups shown c.form_of-form.ensures.value set (held g.W.Write.contents) _ _) c.write_form.ensures.part;
    }
