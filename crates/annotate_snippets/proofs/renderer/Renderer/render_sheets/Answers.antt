use Rattle.std.proofs.Common.{arith}
use Rattle.annotate_snippets.proofs.Common.{List, map, rules, string_bytes, subst, sym, Group, IsAsSet}
use Rattle.annotate_snippets.proofs.AsSetLemmas.{ShowsAll, shows-all}
use Rattle.annotate_snippets.proofs.renderer.Renderer.render_sheets.Goals as goal

pub texts_in_form-requires : goal.texts_in_form-requires
texts_in_form-requires c = grind (arith, c.deref.ensures.value, c.in_ok-shown.ensures.shown.drawable, c.form_of-form.result, c.in_ok-shown.ensures.shown.titled)

pub returns : goal.returns
returns c =
    let r = c.args.self.now in
    let groups : List Group = c.args.groups.now in
    let shown : List Group = c.deref.result.now in
    let form = c.form_of-form.result in
    let set : IsAsSet form r groups shown = subst (λ (gs : List Group). IsAsSet form r groups gs) (sym c.deref.ensures.value) c.in_ok-shown.ensures.shown.set in
    let sheets = c.args.sheets.now in
    let texts = map string_bytes c.in_ok-texts.texts.items in
    let all : ShowsAll r groups sheets texts =
    shows-all form r groups shown c.form_of-form.ensures.value set sheets texts c.in_ok-texts.ensures.shows c.in_ok-texts.ensures.laws in
    record { refused = search rules; renders = search rules; shows = all.shows; laws = all.laws; free = all.free }
